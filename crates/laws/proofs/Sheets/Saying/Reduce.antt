-- Answered sheets of kind `reduce`: the text after `normal=` reads as the reduced form of the term.
use mathlib.Core.Path.{◌≡◌, sym}
use Rattle.std.specs.Prelude.{Some}
use Rattle.laws.proofs.Basics.Somes.{some_injective}
use Prim.Native.Nat.{ℕ}
use native.Mathlib.Omega.{arith}
use Rattle.rules.specs.Bytes.{Text}
use Rattle.rules.specs.Tree.{Tree}
use Rattle.rules.specs.Reading.{parse}
use Rattle.rules.specs.Reduction.{normalize}
use Rattle.rules.specs.Sheet.{asks_reduce, read_sheet}
use Rattle.rules.specs.Answer.{answer_of}
use Rattle.rules.specs.Call.{passed, call}
use Rattle.rules.specs.Saying.{SaysNormal}
use Rattle.laws.proofs.Basics.Options.{bound}
use Rattle.laws.proofs.Reading.Builds.{builds, reads_within}
use Rattle.laws.proofs.Reduction.Modulo.{reduced, reduced_only}
use Rattle.laws.proofs.Reduction.Sizes.{normalize_size, normal_reads}
use Rattle.laws.proofs.Sheets.Calls.{call_answer}

module _ (s : Text) (words room : ℕ) (a : Text) (c : call s words room ≡ passed a) where
  pub reduce_said : (text : Text) → read_sheet s ≡ Some (asks_reduce text) → (t : Tree) × (parse text ≡ Some t) × SaysNormal t a
  unfolding answer_of
  reduce_said text h =
      let (t, f, e) = bound (parse text) _ a (call_answer s words room (asks_reduce text) a h c) in
      let b = builds text t f in
      let within = reads_within text t f in (
        t,
        f,
        record {
          normal = normalize t;
          says = sym (some_injective _ a e);
          reads = normal_reads t b within;
          limit = omega (arith, within, normalize_size t);
          reduced = reduced t b;
          only = λ u r. reduced_only b r;
        },
      )
