-- The loop of `match` over an area: the run is that of the waiting pairs, after the bindings made so far.
use Prim.Native.Nat.{ℕ, ◌+◌, ◌-◌, ◌*◌, ◌<◌, ◌≤◌}
use mathlib.Core.Path.{◌≡◌, refl, sym, ap, ap₂, subst, ◌∙◌}
use mathlib.Core.List.{List, [], ◌∷◌}
use native.Mathlib.Omega.{arith}
use Rattle.std.specs.Prelude.{Ok, Err}
use Rattle.rules.specs.declared.Ending.{Ending}
use Rattle.rules.specs.declared.Ending.TheVariants as ending
use Rattle.rules.specs.Substitution.{Binding, Pair, flatten}
use Rattle.rules.specs.Solving.{solved, failed, unsupported, Answer}
use Rattle.rules.specs.Matching.{Move, onward, clash, beyond, move, moved, matching, matcher}
use Rattle.laws.specs.Memory.{weight}
use Rattle.tree.specs.declared.area.Area.{Area}
use Rattle.tree.specs.Areas.{tree_in, trees_in, Grows}
use Rattle.tree.proofs.Decoding.{trees_none}
use Rattle.tree.proofs.Keeping.{grows_same, grows_then}
use Rattle.substitution.specs.Bindings.{bindings_of, flatten_bindings, Chain}
use Rattle.substitution.specs.Areas.{bindings_in}
use Rattle.substitution.proofs.Chains.{bindings_flatten, chain_flatten}
use Rattle.elimination.specs.Stack.{Whole, Fit, FitPairs, FitBindings}
use Rattle.elimination.specs.Area.{Room}
use Rattle.elimination.specs.declared.front.Front.{Front}
use Rattle.elimination.specs.Fronts.{FitFront, load_in, FrontRoom}
use Rattle.elimination.proofs.Tops.{pairs_are, top_weight, top_fit}
use Rattle.moving.specs.Areas.{MadeIn, FitMade, last_move, OnwardsIn}
use Rattle.steps.proofs.Fitting.{FitMove, move_fit}
use Rattle.elimination.specs.Areas.{pairs_in}
use Rattle.unifier.specs.Areas.{AnswersIn}
use Rattle.matching.proofs.Answering.{later, matching_end, matching_step, matching_spent, matcher_start}

-- at the head of the loop, with so much fuel left: the pairs ps wait from cell waiting on, the bindings bs are from cell made on
pub record HoldsIn (a b : Area) (start : List Pair) (fuel left waiting made : ℕ) : Type 0 where
  pub grows : Grows a b
  pub stack : waiting < b.free
  pub list : made < b.free
  pub within : left ≤ fuel
  pub ps : List Pair
  pub bs : List Binding
  pub waits : trees_in b waiting ≡ flatten ps
  pub binds : trees_in b made ≡ flatten_bindings bs
  pub fit : FitPairs ps
  pub values : FitBindings bs
  pub room : Room b.work.now (b.free + weight ps + 2 * left)
  pub ran : matcher fuel start ≡ later (fuel - left) (matching left ps bs)

pub holds_start : {a : Area} {stack fuel : ℕ} → stack < a.free → Whole (trees_in a stack) → FitPairs (pairs_in a stack) → Room a.work.now (a.free + weight (pairs_in a stack) + 2 * fuel)
    → HoldsIn a a (pairs_in a stack) fuel fuel stack 0
unfolding flatten_bindings
holds_start {a} {stack} {fuel} q whole fit room =
    let y : 0 ≡ fuel - fuel = omega arith in
    record {
      grows = grows_same a;
      stack = q;
      list = a.arena.links.some;
      within = omega arith;
      ps = pairs_in a stack;
      bs = [];
      waits = sym whole;
      binds = trees_none a.sheet.now a.work.now 0 refl;
      fit = fit;
      values = tt;
      room = (omega (arith, room.0), omega (arith, room.1));
      ran = matcher_start fuel (pairs_in a stack) ∙ ap (λ (k : ℕ). later k (matching fuel (pairs_in a stack) [])) y;
    }

module _ {a b : Area} {start : List Pair} {fuel left waiting made : ℕ} (h : HoldsIn a b start fuel left waiting made) where
  -- the bindings, as the cells have them
  made_are : bindings_in b made ≡ h.bs
  made_are = ap bindings_of h.binds ∙ bindings_flatten h.bs

  made_chain : Chain (trees_in b made)
  made_chain = subst Chain (sym h.binds) (chain_flatten h.bs)

  made_fit : FitBindings (bindings_in b made)
  made_fit = subst FitBindings (sym made_are) h.values

  -- The ends

  pub holds_solved : 0 < left → pairs_in b waiting ≡ [] → AnswersIn a b (matcher fuel start) (record { verdict = Ok made; spent = fuel - (left - 1) - 1 })
  holds_solved p e =
      let empty = sym (pairs_are h.ps h.waits) ∙ e in
      let z : fuel - left + 0 ≡ fuel - (left - 1) - 1 = omega arith in
      let room = h.room in
      record {
        grows = h.grows;
        is = h.ran
            ∙ ap (λ (qs : List Pair). later (fuel - left) (matching left qs h.bs)) empty
            ∙ ap (λ (x : Answer). later (fuel - left) x) (matching_end left h.bs p)
            ∙ ap₂ (λ (cs : List Binding) (k : ℕ). (solved cs, k)) (sym made_are) z;
        bound = record { inside = h.list; chain = made_chain; room = omega (arith, room.0) };
      }

  pub holds_spent : left ≡ 0 → AnswersIn a b (matcher fuel start) (record { verdict = Err ending.Unsupported; spent = fuel })
  holds_spent e =
      let z : fuel - left + 0 ≡ fuel = omega arith in
      record {
        grows = h.grows;
        is = h.ran ∙ ap (λ (x : Answer). later (fuel - left) x) (matching_spent left h.ps h.bs e) ∙ ap (λ (k : ℕ). (unsupported, k)) z;
        bound = tt;
      }

  -- The pair on top

  module _ (f : Front) (t : pairs_in b waiting ≡ (tree_in b f.left, tree_in b f.right) ∷ pairs_in b f.rest) (p : 0 < left) where
    on_top : h.ps ≡ (tree_in b f.left, tree_in b f.right) ∷ pairs_in b f.rest
    on_top = sym (pairs_are h.ps h.waits) ∙ t

    weighs : weight h.ps ≡ load_in b f + weight (pairs_in b f.rest)
    weighs = top_weight (tree_in b f.left) (tree_in b f.right) (pairs_in b f.rest) on_top

    fits : Fit (tree_in b f.left) × Fit (tree_in b f.right) × FitPairs (pairs_in b f.rest)
    fits = top_fit (tree_in b f.left) (tree_in b f.right) (pairs_in b f.rest) on_top h.fit

    -- what taking it needs
    pub move_made : MadeIn b made
    move_made = (h.list, made_chain)

    pub move_fits : FitFront b f × FitMade b made
    move_fits = ((fits.0, fits.1), made_fit)

    pub move_room : FrontRoom b f
    move_room = let room = h.room in (omega (arith, room.0, weighs), omega (arith, room.1, weighs))

    -- what it makes of it
    abbrev pub taken_move : Move
    taken_move = move (tree_in b f.left) (tree_in b f.right) (pairs_in b f.rest) (bindings_in b made)

    stays_fit : FitMove taken_move
    stays_fit = move_fit (tree_in b f.left) (tree_in b f.right) (pairs_in b f.rest) (bindings_in b made) fits.0 fits.1 fits.2 made_fit

    taken_run : (d : Move) → taken_move ≡ d → matcher fuel start ≡ later (fuel - left) (moved d (λ qs cs. matching (left - 1) qs cs))
    taken_run d e =
        h.ran
        ∙ ap₂ (λ (qs : List Pair) (cs : List Binding). later (fuel - left) (matching left qs cs)) on_top (sym made_are)
        ∙ ap (λ (x : Answer). later (fuel - left) x) (matching_step left (tree_in b f.left) (tree_in b f.right) (pairs_in b f.rest) (bindings_in b made) p)
        ∙ ap (λ (d : Move). later (fuel - left) (moved d (λ qs cs. matching (left - 1) qs cs))) e

    counted : (k : ℕ) → fuel - left + (1 + k) ≡ fuel - (left - 1) + k
    counted k = omega (arith, h.within)

    last : fuel - left + 1 ≡ fuel - (left - 1)
    last = omega (arith, h.within)

    module _ {d : Area} where
      pub holds_over : (e : Ending) → (taken_move ≡ last_move e) × Grows b d → AnswersIn a d (matcher fuel start) (record { verdict = Err e; spent = fuel - (left - 1) })
      holds_over ending.Failed g = record { grows = grows_then h.grows g.1; is = taken_run clash g.0 ∙ ap (λ (k : ℕ). (failed, k)) last; bound = tt }
      holds_over ending.Unsupported g = record { grows = grows_then h.grows g.1; is = taken_run beyond g.0 ∙ ap (λ (k : ℕ). (unsupported, k)) last; bound = tt }

      pub holds_onward : {st k : ℕ} → OnwardsIn b d (load_in b f + weight (pairs_in b f.rest)) taken_move st k
          → HoldsIn a d start fuel (left - 1) st k
      holds_onward {st} {k} g =
          let x = matching (left - 1) g.pairs g.bindings in
          let k = subst FitMove g.is stays_fit in
          let room = h.room in
          let w = weighs in
          let used = g.used in
          let len = g.waits.grows.below.len in
          record {
            grows = grows_then h.grows g.waits.grows;
            stack = g.waits.inside;
            list = g.list_inside;
            within = omega (arith, h.within);
            ps = g.pairs;
            bs = g.bindings;
            waits = g.waits.trees;
            binds = g.list;
            fit = k.0;
            values = k.1;
            room = (omega (arith, room.0), omega (arith, room.1));
            ran = taken_run (onward g.pairs g.bindings) g.is ∙ ap (λ (j : ℕ). (x.0, j)) (counted x.1);
          }
