-- What taking a pair of `match` leaves in an area, arm by arm.
use Prim.Native.Nat.{ℕ, ◌+◌, ◌<◌, ◌≤◌}
use mathlib.Core.Path.{◌≡◌, refl, sym, ap, ap₂, subst, ◌∙◌}
use mathlib.Core.Logic.{◌⊎◌, inl, inr}
use mathlib.Core.Bool.{Bool, true, false}
use mathlib.Core.List.{List, ◌∷◌}
use native.Mathlib.Omega.{arith}
use Rattle.std.specs.Prelude.{Option, Some, None}
use Rattle.rules.specs.Bytes.{Text, same}
use Rattle.rules.specs.Tree.{Tree, variable, Trees, more, head, tamtplus}
use Rattle.rules.specs.Substitution.{Binding, Pair}
use Rattle.rules.specs.Sums.{equivalent}
use Rattle.rules.specs.declared.Ending.{Ending}
use Rattle.rules.specs.declared.Ending.TheVariants as ending
use Rattle.rules.specs.declared.Sort.{Sort}
use Rattle.rules.specs.Sorts.{sorted}
use Rattle.rules.specs.Solving.{Rest, emptied, mismatch, stuck, equation, cancel_sums}
use Rattle.rules.specs.Matching.{Move, onward, clash, beyond, bound, agree, bind_new, sort_new, match_key, match_rest, ground_eq, match_at, match_roots, move}
use Rattle.laws.specs.Memory.{load, weight}
use Rattle.tree.specs.declared.area.Area.{Area}
use Rattle.tree.specs.declared.kinds.Kind.TheVariants.{Application, Atom}
use Rattle.tree.specs.Areas.{cell_kind, name_in, tree_in, trees_in, sort_of, Grows}
use Rattle.tree.proofs.Keeping.{adds_grows, grows_trees}
use Rattle.tree.proofs.ByKind.{tree_application, tree_an_atom}
use Rattle.substitution.specs.Bindings.{flatten_bindings, Chain}
use Rattle.tree.specs.Lists.{Lists}
use Rattle.substitution.specs.Areas.{bindings_in}
use Rattle.elimination.specs.Stack.{Whole}
use Rattle.elimination.specs.Areas.{pairs_in, WaitsIn}
use Rattle.elimination.proofs.Eliminating.{waits_stay}
use Rattle.sums.specs.declared.striking.Cancelling.TheVariants.{Ground}
use Rattle.steps.specs.Areas.{Rooted, waiting, unlike, undecided, rest_rooted, roots_at, roots, rooted_at_end, WaitingIn}
use Rattle.moving.specs.Areas.{last_move, OnwardsIn}

-- Roots

-- the move that roots make
abbrev pub rooted_move : Rooted → List Binding → Move
rooted_move (waiting ps) bs = onward ps bs
rooted_move unlike bs = clash
rooted_move undecided bs = beyond

module _ (t u : Tree) (ps : List Pair) (bs : List Binding) where
  rest_moves : (d : Rest) → match_rest d ps bs ≡ rooted_move (rest_rooted d ps) bs
  rest_moves emptied = refl
  rest_moves mismatch = refl
  rest_moves (equation a b) = refl
  rest_moves stuck = refl

  roots_move : match_roots t u ps bs ≡ rooted_move (roots Ground t u ps) bs
  unfolding match_roots roots
  roots_move = go (same (head t) (head u)) (same (head t) tamtplus)
    where
      go : (b c : Bool) → match_at b c t u ps bs ≡ rooted_move (roots_at b c Ground t u ps) bs
      go false c = refl
      go true true = rest_moves (cancel_sums false ground_eq t u)
      go true false = refl

  moves_rooted : {d : Rooted} → roots Ground t u ps ≡ d → match_roots t u ps bs ≡ rooted_move d bs
  moves_rooted e = roots_move ∙ ap (λ (d : Rooted). rooted_move d bs) e

  pub moves_ended : (e : Ending) → roots Ground t u ps ≡ rooted_at_end e → match_roots t u ps bs ≡ last_move e
  moves_ended ending.Failed f = moves_rooted f
  moves_ended ending.Unsupported f = moves_rooted f

-- the bindings made stay
module _ {a b : Area} (made : ℕ) (q : made < a.free) (chain : Chain (trees_in a made)) where
  pub onwards_stay : {h st : ℕ} {d : Move} {ps : List Pair} → d ≡ onward ps (bindings_in a made) → WaitsIn a b st ps → b.free + weight ps ≤ a.free + h + 2 → OnwardsIn a b h d st made
  onwards_stay {ps = ps} e w used = record {
    pairs = ps;
    bindings = bindings_in a made;
    is = e;
    waits = w;
    list_inside = omega (arith, q, w.grows.grew);
    list = grows_trees w.grows made q ∙ sym chain;
    used = used;
  }

  pub onwards_rooted : {h st : ℕ} {k : Option ℕ} {same : Bool} (t u : Tree) (ps : List Pair) → WaitingIn a b h same (roots Ground t u ps) st k → OnwardsIn a b h (match_roots t u ps (bindings_in a made)) st made
  onwards_rooted t u ps w = onwards_stay (moves_rooted t u ps (bindings_in a made) w.is) w.waits w.used

-- neither the pairs nor the bindings change
pub onwards_same : {a b : Area} {d : Move} (rest made : ℕ) → rest < a.free → made < a.free → Whole (trees_in a rest) → Chain (trees_in a made) → Grows a b → b.free ≡ a.free → d ≡ onward (pairs_in a rest) (bindings_in a made)
    → OnwardsIn a b (weight (pairs_in a rest)) d rest made
onwards_same rest made q q₁ whole chain g end e = onwards_stay made q₁ chain e (waits_stay rest g q whole) (omega arith)

-- one binding more
pub onwards_bound : {a b : Area} {d : Move} {st : ℕ} {u : Tree} (key rest made : ℕ) → rest < a.free → Whole (trees_in a rest) → Chain (trees_in a made) → tree_in a key ≡ variable (name_in a key)
    → Lists a b st (more (tree_in a key) (more u (trees_in a made))) → b.free ≡ a.free + 2 → d ≡ onward (pairs_in a rest) ((name_in a key, u) ∷ bindings_in a made)
    → OnwardsIn a b (weight (pairs_in a rest)) d rest st
unfolding flatten_bindings
onwards_bound {a} {u = u} key rest made q whole chain k lists end e = record {
  pairs = pairs_in a rest;
  bindings = (name_in a key, u) ∷ bindings_in a made;
  is = e;
  waits = waits_stay rest (adds_grows lists.adds) q whole;
  list_inside = lists.inside;
  list = lists.trees ∙ ap₂ (λ (t : Tree) (ts : Trees). more t (more u ts)) k (sym chain);
  used = omega (arith, end);
}

-- A pattern variable

pub bound_agrees : {o : Option Tree} {b : Bool} (t : Tree) (x : Text) (u : Tree) (ps : List Pair) (bs : List Binding) → o ≡ Some t → equivalent t u ≡ b → match_key o x u ps bs ≡ agree b ps bs
bound_agrees t x u ps bs e f = ap (λ (o : Option Tree). match_key o x u ps bs) e ∙ ap (λ (b : Bool). agree b ps bs) f

-- one that is not bound yet, whose tree is k
module _ {o : Option Tree} (x : Text) (u : Tree) (ps : List Pair) (bs : List Binding) (none : o ≡ None) {k : Tree} (e : k ≡ variable x) {s : Option Sort} (f : s ≡ sort_of k) where
  new_sort : match_key o x u ps bs ≡ sort_new s x u ps bs
  new_sort = ap (λ (o : Option Tree). match_key o x u ps bs) none ∙ ap (λ (s : Option Sort). sort_new s x u ps bs) (sym (f ∙ ap sort_of e))

  pub new_sorted : {b : Bool} (r : Sort) → s ≡ Some r → sorted r u ≡ b → match_key o x u ps bs ≡ bind_new b x u ps bs
  new_sorted r g h = new_sort ∙ ap (λ (s : Option Sort). sort_new s x u ps bs) g ∙ ap (λ (b : Bool). bind_new b x u ps bs) h

-- A pair

-- a variable weighs nothing
pub variable_load : {t : Tree} {x : Text} (u : Tree) (n : ℕ) → t ≡ variable x → load t u + n ≡ n
unfolding load
variable_load u n e = let f = ap (λ (t : Tree). load t u) e in omega arith

pub move_variable : {t : Tree} {x : Text} (u : Tree) (ps : List Pair) (bs : List Binding) → t ≡ variable x → move t u ps bs ≡ match_key (bound x bs) x u ps bs
unfolding move
move_variable u ps bs e = ap (λ (t : Tree). move t u ps bs) e

pub move_no_variable : (a : Area) (k : ℕ) (u : Tree) (ps : List Pair) (bs : List Binding) → (cell_kind a k ≡ Application) ⊎ ((c : ℕ) × (cell_kind a k ≡ Atom c)) → move (tree_in a k) u ps bs ≡ match_roots (tree_in a k) u ps bs
unfolding move
move_no_variable a k u ps bs (inl e) = subst (λ (t : Tree). move t u ps bs ≡ match_roots t u ps bs) (sym (tree_application a k e)) refl
move_no_variable a k u ps bs (inr e) = subst (λ (t : Tree). move t u ps bs ≡ match_roots t u ps bs) (sym (tree_an_atom a k e.0 e.1)) refl
