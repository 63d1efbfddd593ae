-- The tests of sorts at a cell of an area, by its kind.
use Prim.Native.Nat.{ℕ, ◌<◌}
use mathlib.Core.Path.{◌≡◌, refl, ap, ap₂, ◌∙◌}
use mathlib.Core.Bool.{Bool, true, false, not, ◌&&◌, ◌||◌}
use lib.Dec.{eqb}
use denote.Enum.Bare.{sameb}
use denote.Enum.Declared.{tag_of}
use Rattle.std.specs.Prelude.{Option, Some, None}
use Rattle.std.specs.Option.{option_eq}
use Rattle.rules.specs.Tree.{Tree, Trees, none, more}
use Rattle.rules.specs.declared.Sort.{Sort}
use Rattle.rules.specs.declared.Sort.TheVariants.{Pub, Fresh, Msg, TamNat, Node}
use Rattle.rules.specs.contracts.Sort.{the_type}
use Rattle.rules.specs.Sorts.{Symbol, addition, unit, frame, free, symbol, sort_number, same_sort, has_sort, has_message_sort, natural_at, natural, naturals, message_at, message, messages, basic, sorted, may_meet, refinable_at, refinable, refinables}
use Rattle.tree.specs.declared.area.Area.{Area}
use Rattle.tree.specs.declared.kinds.Kind.TheVariants.{Application, Variable, Atom}
use Rattle.tree.specs.Areas.{cell_kind, first_in, next_in, name_in, tree_in, trees_in}
use Rattle.tree.proofs.Decoding.{trees_none, trees_more}
use Rattle.tree.proofs.ByKind.{tree_application, tree_a_variable, tree_an_atom, sort_of_variable}

-- the test of two sorts
sort_tag : (s : Sort) → tag_of the_type s ≡ sort_number s
sort_tag Pub = refl
sort_tag Fresh = refl
sort_tag Msg = refl
sort_tag TamNat = refl
sort_tag Node = refl

pub same_sorts : (r s : Sort) → sameb the_type r s ≡ same_sort r s
same_sorts r s = ap₂ eqb (sort_tag r) (sort_tag s)

pub same_some : (v : Option Sort) (s : Sort) → option_eq (sameb the_type) v (Some s) ≡ has_sort s v
same_some None s = refl
same_some (Some r) s = same_sorts r s

-- what an application may be refined to, by whether it has arguments
abbrev pub refined_at : Sort → Symbol → Bool → Bool → Bool → Bool → Bool
refined_at s addition e leaf b c = (same_sort s TamNat || same_sort s Msg) && b
refined_at s frame e leaf b c = false
refined_at s unit true leaf b c = leaf
refined_at s unit false leaf b c = same_sort s Msg && c
refined_at s free true leaf b c = leaf
refined_at s free false leaf b c = same_sort s Msg && c

refined_none : (s : Sort) (x : Symbol) (leaf b c : Bool) → refinable_at s x none leaf b c ≡ refined_at s x true leaf b c
refined_none s addition leaf b c = refl
refined_none s unit leaf b c = refl
refined_none s frame leaf b c = refl
refined_none s free leaf b c = refl

refined_more : (s : Sort) (x : Symbol) (t : Tree) (ts : Trees) (leaf b c : Bool) → refinable_at s x (more t ts) leaf b c ≡ refined_at s x false leaf b c
refined_more s addition t ts leaf b c = refl
refined_more s unit t ts leaf b c = refl
refined_more s frame t ts leaf b c = refl
refined_more s free t ts leaf b c = refl

module _ (a : Area) (k : ℕ) where
  pub natural_application : cell_kind a k ≡ Application → natural (tree_in a k) ≡ natural_at (symbol (name_in a k)) (naturals (trees_in a (first_in a k)))
  unfolding natural
  natural_application e = ap natural (tree_application a k e)

  pub natural_atom : (c : ℕ) → cell_kind a k ≡ Atom c → natural (tree_in a k) ≡ eqb c 116
  unfolding natural
  natural_atom c e = ap natural (tree_an_atom a k c e)

  pub natural_variable : (v : Option Sort) → cell_kind a k ≡ Variable v → 0 < k → k < a.free → natural (tree_in a k) ≡ has_sort TamNat v
  unfolding natural
  natural_variable v e p q = ap natural (tree_a_variable a k v e) ∙ ap (has_sort TamNat) (sort_of_variable a k v p q e)

  pub message_application : cell_kind a k ≡ Application → message (tree_in a k) ≡ message_at (symbol (name_in a k)) (naturals (trees_in a (first_in a k))) (messages (trees_in a (first_in a k)))
  unfolding message
  message_application e = ap message (tree_application a k e)

  pub message_atom : (c : ℕ) → cell_kind a k ≡ Atom c → message (tree_in a k) ≡ not (eqb c 110)
  unfolding message
  message_atom c e = ap message (tree_an_atom a k c e)

  pub message_variable : (v : Option Sort) → cell_kind a k ≡ Variable v → 0 < k → k < a.free → message (tree_in a k) ≡ has_message_sort v
  unfolding message
  message_variable v e p q = ap message (tree_a_variable a k v e) ∙ ap has_message_sort (sort_of_variable a k v p q e)

  pub basic_application : (s : Sort) (l : ℕ) → cell_kind a k ≡ Application → basic s l (tree_in a k) ≡ false
  unfolding basic
  basic_application s l e = ap (basic s l) (tree_application a k e)

  pub basic_atom : (s : Sort) (l c : ℕ) → cell_kind a k ≡ Atom c → basic s l (tree_in a k) ≡ eqb c l
  unfolding basic
  basic_atom s l c e = ap (basic s l) (tree_an_atom a k c e)

  pub basic_variable : (s : Sort) (l : ℕ) (v : Option Sort) → cell_kind a k ≡ Variable v → 0 < k → k < a.free → basic s l (tree_in a k) ≡ has_sort s v
  unfolding basic
  basic_variable s l v e p q = ap (basic s l) (tree_a_variable a k v e) ∙ ap (has_sort s) (sort_of_variable a k v p q e)

  refinable_application : (s : Sort) → cell_kind a k ≡ Application → refinable s (tree_in a k) ≡ refinable_at s (symbol (name_in a k)) (trees_in a (first_in a k)) (sorted s (tree_in a k)) (refinables TamNat (trees_in a (first_in a k))) (refinables Msg (trees_in a (first_in a k)))
  unfolding refinable
  refinable_application s e = rw (tree_application a k e)

  pub refinable_constant : (s : Sort) → cell_kind a k ≡ Application → first_in a k ≡ 0 → refinable s (tree_in a k) ≡ refined_at s (symbol (name_in a k)) true (sorted s (tree_in a k)) (refinables TamNat (trees_in a (first_in a k))) (refinables Msg (trees_in a (first_in a k)))
  refinable_constant s e z =
      refinable_application s e
      ∙ ap (λ (ts : Trees). refinable_at s (symbol (name_in a k)) ts (sorted s (tree_in a k)) (refinables TamNat (trees_in a (first_in a k))) (refinables Msg (trees_in a (first_in a k)))) (trees_none a.sheet.now a.work.now (first_in a k) z)
      ∙ refined_none s (symbol (name_in a k)) (sorted s (tree_in a k)) (refinables TamNat (trees_in a (first_in a k))) (refinables Msg (trees_in a (first_in a k)))

  pub refinable_function : (s : Sort) → cell_kind a k ≡ Application → 0 < first_in a k → first_in a k < a.free → refinable s (tree_in a k) ≡ refined_at s (symbol (name_in a k)) false (sorted s (tree_in a k)) (refinables TamNat (trees_in a (first_in a k))) (refinables Msg (trees_in a (first_in a k)))
  refinable_function s e p q =
      let j = first_in a k in
      refinable_application s e
      ∙ ap (λ (ts : Trees). refinable_at s (symbol (name_in a k)) ts (sorted s (tree_in a k)) (refinables TamNat (trees_in a (first_in a k))) (refinables Msg (trees_in a (first_in a k)))) (trees_more a.sheet.now a.arena.links j p q)
      ∙ refined_more s (symbol (name_in a k)) (tree_in a j) (trees_in a (next_in a j)) (sorted s (tree_in a k)) (refinables TamNat (trees_in a j)) (refinables Msg (trees_in a j))

  pub refinable_atom : (s : Sort) (c : ℕ) → cell_kind a k ≡ Atom c → refinable s (tree_in a k) ≡ sorted s (tree_in a k)
  unfolding refinable
  refinable_atom s c e = rw (tree_an_atom a k c e)

  pub refinable_variable : (s : Sort) (v : Option Sort) → cell_kind a k ≡ Variable v → 0 < k → k < a.free → refinable s (tree_in a k) ≡ may_meet s v
  unfolding refinable
  refinable_variable s v e p q = ap (refinable s) (tree_a_variable a k v e) ∙ ap (may_meet s) (sort_of_variable a k v p q e)

-- what the kind of a cell says of the tests there
pub ruleset by_kind = (natural_application, natural_atom, message_application, message_atom, basic_application, basic_atom, refinable_constant, refinable_function, refinable_atom, same_sorts)
