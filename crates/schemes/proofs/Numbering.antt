-- The count of schemes of a list of cells, if it is at most 4,096, from the counts of its parts.
use Prim.Native.Nat.{ℕ, ◌+◌, ◌*◌, ◌<◌, ◌≤◌}
use native.Mathlib.Nat.{mul_assoc, le-mul_of_pos_right}
use native.Mathlib.Omega.{arith}
use native.Mathlib.Decide.{dec_lt}
use mathlib.Core.Path.{◌≡◌, refl, sym, ap, ◌∙◌}
use mathlib.Core.Bool.{Bool, true, false, cond}
use Rattle.std.specs.Prelude.{Option, Some, None}
use Rattle.std.specs.Option.{is_some}
use Rattle.std.specs.Bool.{then_some}
use lib.Dec.{leb}
use Rattle.laws.proofs.Basics.Tests.{true_leb, false_leb}
use Rattle.rules.specs.Tree.{Tree, Trees, none, more, children}
use Rattle.rules.specs.declared.Rule.{Rule}
use Rattle.rules.specs.declared.Rule.TheVariants.{Fst, Snd, Flip, Sdec, Kdec}
use Rattle.rules.specs.Reduction.{arguments1, arguments2}
use Rattle.rules.specs.Variants.{firing_count, with_one, with_two, scheme_count, scheme_counts}
use Rattle.schemes.specs.Choices.{ways_of, suits, choice_count}
use Rattle.schemes.specs.Areas.{counted_in}
use Rattle.schemes.proofs.ByChildren.{count_children}
use Rattle.schemes.proofs.Counts.{ways_few, counts_positive}

-- a count up to 4,096, and one past it
pub counted_some : (n : ℕ) → n ≤ 4096 → Some n ≡ counted_in n
unfolding counted_in
counted_some n h = sym (ap (λ (b : Bool). cond b (Some n) None) (true_leb n 4096 h))

counted_none : (n : ℕ) → 4096 < n → None ≡ counted_in n
unfolding counted_in
counted_none n h = sym (ap (λ (b : Bool). cond b (Some n) None) (false_leb n 4096 h))

pub within : (n k : ℕ) → Some k ≡ counted_in n → (k ≡ n) × (n ≤ 4096)
within n k e = elim (dec_lt 4096 n) [
  | yes p ↦ (let f = e ∙ sym (counted_none n p) in absurd cc)
  | no p ↦ (let f = e ∙ sym (counted_some n (omega arith)) in (cc, omega arith))
]

pub past : (n : ℕ) → None ≡ counted_in n → 4096 < n
past n e = elim (dec_lt 4096 n) [ yes p ↦ p | no p ↦ (let f = e ∙ sym (counted_some n (omega arith)) in absurd cc) ]

pub counted_then : (n : ℕ) → then_some (leb n 4096) n ≡ counted_in n
unfolding counted_in
counted_then n = go (leb n 4096)
  where
    go : (b : Bool) → then_some b n ≡ cond b (Some n) None
    go true = refl
    go false = refl

past_more : (c x y : ℕ) → 0 < y → None ≡ counted_in (c * x) → None ≡ counted_in (c * (x * y))
past_more c x y p e = counted_none (c * (x * y)) (omega (arith, past (c * x) e, le-mul_of_pos_right (c * x) p, mul_assoc c x y))

within_more : {o : Option ℕ} (b c x y : ℕ) → Some b ≡ counted_in (c * x) → o ≡ counted_in (b * y) → o ≡ counted_in (c * (x * y))
within_more b c x y e f = f ∙ ap (λ (k : ℕ). counted_in (k * y)) (within (c * x) b e).0 ∙ ap counted_in (mul_assoc c x y)

-- of a tree
module _ (c : ℕ) (t : Tree) where
  pub tree_past : None ≡ counted_in (c * scheme_counts (children t)) → None ≡ counted_in (c * scheme_count t)
  tree_past e = past_more c (scheme_counts (children t)) (ways_of t) (ways_few t).0 e ∙ ap (λ (n : ℕ). counted_in (c * n)) (sym (count_children t))

  pub tree_counted : {o : Option ℕ} (b w : ℕ) → Some b ≡ counted_in (c * scheme_counts (children t)) → w ≡ ways_of t → o ≡ counted_in (b * w) → o ≡ counted_in (c * scheme_count t)
  tree_counted b w e f g =
      within_more b c (scheme_counts (children t)) (ways_of t) e (g ∙ ap (λ (n : ℕ). counted_in (b * n)) f)
      ∙ ap (λ (n : ℕ). counted_in (c * n)) (sym (count_children t))

  -- of a list
  pub list_past : (ts : Trees) → None ≡ counted_in (c * scheme_count t) → None ≡ counted_in (c * scheme_counts (more t ts))
  unfolding scheme_count
  list_past ts e = past_more c (scheme_count t) (scheme_counts ts) (counts_positive ts) e

  pub list_counted : {o : Option ℕ} (b : ℕ) (ts : Trees) → Some b ≡ counted_in (c * scheme_count t) → o ≡ counted_in (b * scheme_counts ts) → o ≡ counted_in (c * scheme_counts (more t ts))
  unfolding scheme_count
  list_counted b ts e f = within_more b c (scheme_count t) (scheme_counts ts) e f

pub none_counted : (c : ℕ) → c ≤ 4096 → Some c ≡ counted_in (c * scheme_counts none)
unfolding scheme_count
none_counted c h = counted_some c h ∙ ap counted_in (let e : c ≡ c * 1 = omega arith in e)

-- one time a count
pub once : (n : ℕ) → counted_in (1 * n) ≡ counted_in n
once n = ap counted_in (let e : 1 * n ≡ n = omega arith in e)

-- the choices of a rule, by the children
one_fit : (k : ℕ) (ts : Trees) → is_some (arguments1 ts) ≡ true → 1 + k ≡ 1 + with_one k ts
one_fit k none e = absurd cc
one_fit k (more a none) e = refl
one_fit k (more a (more b ts)) e = absurd cc

one_unfit : (k : ℕ) (ts : Trees) → is_some (arguments1 ts) ≡ false → 1 ≡ 1 + with_one k ts
one_unfit k none e = refl
one_unfit k (more a none) e = absurd cc
one_unfit k (more a (more b ts)) e = refl

two_fit : (ts : Trees) → is_some (arguments2 ts) ≡ true → 2 ≡ 1 + with_two 1 ts
two_fit none e = absurd cc
two_fit (more a none) e = absurd cc
two_fit (more a (more b none)) e = refl
two_fit (more a (more b (more c ts))) e = absurd cc

two_unfit : (ts : Trees) → is_some (arguments2 ts) ≡ false → 1 ≡ 1 + with_two 1 ts
two_unfit none e = refl
two_unfit (more a none) e = refl
two_unfit (more a (more b none)) e = absurd cc
two_unfit (more a (more b (more c ts))) e = refl

pub suits_choices : (r : Rule) (ts : Trees) → suits r ts ≡ true → choice_count (Some r) ≡ 1 + firing_count (Some r) ts
suits_choices Fst ts e = one_fit 1 ts e
suits_choices Snd ts e = one_fit 1 ts e
suits_choices Flip ts e = one_fit 2 ts e
suits_choices Sdec ts e = two_fit ts e
suits_choices Kdec ts e = two_fit ts e

pub unsuited_choices : (r : Rule) (ts : Trees) → suits r ts ≡ false → 1 ≡ 1 + firing_count (Some r) ts
unsuited_choices Fst ts e = one_unfit 1 ts e
unsuited_choices Snd ts e = one_unfit 1 ts e
unsuited_choices Flip ts e = one_unfit 2 ts e
unsuited_choices Sdec ts e = two_unfit ts e
unsuited_choices Kdec ts e = two_unfit ts e
