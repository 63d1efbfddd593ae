use Prim.Native.Nat.{◌<◌}
use mathlib.Core.Path.{◌≡◌, refl}
use native.Mathlib.Omega.{arith}
use Rattle.std.proofs.Common.{rules}
use Rattle.std.proofs.lemmas.Bool.Decides.{nat_tests}
use Rattle.tree.specs.declared.kinds.Kind.TheVariants.{Application}
use Rattle.tree.specs.Areas.{cell_kind, first_in, next_in}
use Rattle.closing.proofs.Numbers.{alone_spelled}
use Rattle.closing.proofs.is_number.Goals as goal

pub returns-then-first_of-eq0 : goal.returns-then-first_of-eq0
returns-then-first_of-eq0 c =
    let a = c.args.area.now in
    let k = c.args.k in
    let p : 0 < k = grind (arith, nat_tests) in
    let n : next_in a k ≡ 0 = grind (arith, nat_tests) in
    let f : first_in a k ≡ 0 = grind (arith, nat_tests) in
    let e : cell_kind a k ≡ Application = search (rules, nat_tests) in
    alone_spelled a k p c.requires refl (omega (arith, n)) e refl (omega (arith, f)) c.spelled.result _ c.spelled.ensures c.is_some_and.ensures (λ m q. search rules)
