-- Where sorts, variables and tokens end, at a position of a text.
use mathlib.Core.Path.{◌≡◌, refl, ap, ◌∙◌}
use mathlib.Core.List.{List, [], ◌∷◌}
use Rattle.std.specs.Prelude.{Option, Some, None}
use mathlib.Core.Bool.{Bool, true, false, cond, ◌&&◌}
use Prim.Native.Nat.{ℕ, suc, ◌+◌}
use native.Mathlib.Omega.{arith}
use lib.ListN.{get_or, drop}
use lib.Dec.{eqb, ltb}
use lib.Seq.{get_or-drop, drop-drop}
use Rattle.std.proofs.lemmas.Bool.Decides.{nat_tests}
use Rattle.rules.specs.Maybe.{◌>>=◌, guard}
use Rattle.rules.specs.Names.{digit, alphabetic, alphanumeric}
use Rattle.rules.specs.Tokens.{run_length, sigil, sort_length, variable_rest}
use Rattle.syntax.specs.Next.{end_of}

-- a sort's length by the bytes in front
sort_by_lem : (l : List ℕ) → sort_length l ≡ (guard (eqb (get_or l 0 0) 58 && alphabetic (get_or l 1 0)) >>= λ _. Some (suc (suc (run_length alphanumeric (drop 2 l)))))
unfolding sort_length alphabetic
sort_by_lem [] = refl
sort_by_lem (b ∷ []) = go (eqb b 58)
  where
    go : (x : Bool) → None ≡ (guard (x && false) >>= λ _. Some (suc (suc (run_length alphanumeric []))))
    go true = refl
    go false = refl
sort_by_lem (b ∷ c ∷ l) = refl

end_guard : (at : ℕ) (t : Bool) (n m : ℕ) → at + n ≡ m → end_of at (guard t >>= λ _. Some n) ≡ cond t (Some m) None
end_guard at true n m e = ap Some e
end_guard at false n m e = refl

pub sort_is : (s : List ℕ) (at : ℕ) → end_of at (sort_length (drop at s))
    ≡ cond (eqb (get_or s at 0) 58 && alphabetic (get_or s (at + 1) 0)) (Some (at + 2 + run_length alphanumeric (drop (at + 2) s))) None
sort_is s at =
    let n = run_length alphanumeric (drop (at + 2) s) in
    let a : at + suc (suc n) ≡ at + 2 + n = omega arith in
    let z : at + 0 ≡ at = omega arith in
    rw (sort_by_lem (drop at s), get_or-drop at s 0 0, get_or-drop at s 1 0, drop-drop 2 at s, z)
    (end_guard at (eqb (get_or s at 0) 58 && alphabetic (get_or s (at + 1) 0)) (suc (suc n)) (at + 2 + n) a)

-- a test on a difference
ltb_add : (a d : ℕ) → ltb 0 d ≡ ltb a (a + d)
ltb_add a d = grind (arith, nat_tests)

shifted : (at d : ℕ) (o : Option ℕ) → end_of at (o >>= λ n. Some (d + n)) ≡ end_of (at + d) o
shifted at d None = refl
shifted at d (Some n) = ap Some (omega arith)

guarded_end : (at d : ℕ) (t : Bool) (o : Option ℕ) → end_of at (guard t >>= λ _. o >>= λ n. Some (d + n)) ≡ cond t (end_of (at + d) o) None
guarded_end at d true o = shifted at d o
guarded_end at d false o = refl

-- where a variable ends, by the place of its colon
pub variable_is : (s : List ℕ) (b at : ℕ) → end_of at (variable_rest b (drop at s))
    ≡ cond (sigil b && ltb at (at + run_length digit (drop at s))) (end_of (at + run_length digit (drop at s)) (sort_length (drop (at + run_length digit (drop at s)) s))) None
unfolding variable_rest
variable_is s b at =
    let d = run_length digit (drop at s) in
    guarded_end at d (sigil b && ltb 0 d) (sort_length (drop d (drop at s))) ∙ rw (drop-drop d at s, ltb_add at d)
