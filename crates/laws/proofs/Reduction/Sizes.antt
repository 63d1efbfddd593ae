-- A reduced tree has no more nodes, so that it reads where the tree was read.
use Prim.Native.Nat.{◌+◌, ◌≤◌}
use mathlib.Core.Path.{◌≡◌}
use Rattle.std.specs.Prelude.{Some}
use native.Mathlib.Omega.{arith}
use Rattle.rules.specs.Bytes.{Text}
use Rattle.rules.specs.Tree.{Tree, variable, atom, apply, Trees, none, more, size, sizes}
use Rattle.rules.specs.Writing.{render}
use Rattle.rules.specs.Tidy.{Built}
use Rattle.rules.specs.Reading.{parse}
use Rattle.rules.specs.declared.Rule.{Rule}
use Rattle.rules.specs.Reduction.{root, normalize, normalizes}
use Rattle.laws.proofs.Basics.Tests.{true_leb}
use Rattle.laws.proofs.Reading.RoundTrip.{reread}
use Rattle.laws.proofs.Reduction.Shapes.{Shape, fst_shape, snd_shape, a_shape, b_shape, sdec_shape, kdec_shape, Rooted, fired, stays, rooted}
use Rattle.laws.proofs.Reduction.Reaching.{built_normal}

shape_size : {r : Rule} {ts : Trees} {u : Tree} → Shape r ts u → size u ≤ sizes ts
unfolding size
shape_size (fst_shape p q) = omega arith
shape_size (snd_shape p q) = omega arith
shape_size a_shape = omega arith
shape_size b_shape = omega arith
shape_size (sdec_shape o) = omega arith
shape_size (kdec_shape o) = omega arith

root_size : (f : Text) (ts : Trees) → size (root f ts) ≤ 1 + sizes ts
unfolding size
root_size f ts = go (rooted f ts)
  where
    go : {u : Tree} → Rooted f ts u → size u ≤ 1 + sizes ts
    go (fired e x) = let h = shape_size x in omega arith
    go (stays n) = omega arith

mutual
  unfolding size normalize

  pub normalize_size : (t : Tree) → size (normalize t) ≤ size t
  normalize_size (variable x) = omega arith
  normalize_size (atom c d) = omega arith
  normalize_size (apply f ts) = let h = normalizes_size ts in let k = root_size f (normalizes ts) in omega arith

  pub normalizes_size : (ts : Trees) → sizes (normalizes ts) ≤ sizes ts
  normalizes_size none = omega arith
  normalizes_size (more t ts) = let h = normalize_size t in let k = normalizes_size ts in omega arith

pub normal_reads : (t : Tree) → Built t → size t ≤ 4096 → parse (render (normalize t)) ≡ Some (normalize t)
normal_reads t b h = reread (normalize t) (built_normal t b) (true_leb (size (normalize t)) 4096 (let k = normalize_size t in omega arith))
