-- The schemes one after the other: what each makes of what was decided before it.
use Prim.Native.Nat.{ℕ}
use mathlib.Core.Path.{◌≡◌}
use mathlib.Core.List.{List}
use lib.ListN.{length}
use native.Mathlib.Omega.{arith}
use Rattle.rules.specs.Bytes.{Text}
use Rattle.rules.specs.Tree.{Tree, Trees}
use Rattle.complete.specs.Judging.{Judgeable}
use Rattle.families.proofs.Generals.{all_matched_same}

-- ---- the answer

-- ---- one scheme

-- ---- all schemes

pub judgeable_same : (name : ℕ → Text) {s : Text} {w v : List ℕ} {n named i : ℕ} {xs : List Text} {ts : Trees} {term : Tree} → length v ≡ length w
    → Judgeable name s w n named xs ts term i → Judgeable name s v n named xs ts term i
judgeable_same name {s} {w} {v} {n} {named} {i} {xs} {ts} {term} e k =
    let r = k.room in
    record {
      names = k.names;
      over = k.over;
      few = k.few;
      fit = k.fit;
      room = (omega (arith, r.0), r.1);
      matched = λ bs f. all_matched_same s w v _ _ xs bs _ ts e (omega arith) (k.matched bs f);
    }
