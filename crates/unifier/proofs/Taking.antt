-- The loop of `unify` over an area: the run is that of the waiting pairs, after the bindings made so far.
use Prim.Native.Nat.{ℕ, ◌+◌, ◌-◌, ◌*◌, ◌<◌, ◌≤◌}
use mathlib.Core.Path.{◌≡◌, refl, sym, ap, ap₂, subst, ◌∙◌}
use mathlib.Core.List.{List, [], ◌∷◌, reverse}
use lib.ListN.{length}
use native.Mathlib.Omega.{arith}
use Rattle.std.specs.Prelude.{Option, Some, None, ok_or, Result, Ok, Err}
use Rattle.rules.specs.Bytes.{Text}
use Rattle.rules.specs.Tree.{Tree, variable, Trees, more}
use Rattle.rules.specs.Substitution.{Binding, Pair, flatten}
use Rattle.rules.specs.declared.Ending.{Ending}
use Rattle.rules.specs.declared.Ending.TheVariants as ending
use Rattle.rules.specs.Solving.{Step, goes_on, bind, fails, unknown, step, Verdict, solved, failed, unsupported, Answer, after, compose, composed, run, unify}
use Rattle.laws.specs.Memory.{OverPairs, weight, without}
use Rattle.laws.proofs.Solving.Names.{StepOver, step_over}
use Rattle.laws.proofs.Solving.Weights.{weight_size}
use Rattle.tree.specs.declared.area.Area.{Area}
use Rattle.tree.specs.Areas.{tree_in, trees_in, Grows, CellIn, HasRoom}
use Rattle.tree.specs.Lists.{Lists}
use Rattle.tree.proofs.Decoding.{trees_none}
use Rattle.tree.proofs.Keeping.{grows_same, grows_then, grows_trees, adds_grows}
use Rattle.substitution.proofs.Listing.{within_grows}
use Rattle.substitution.specs.Bindings.{bindings_of, flatten_bindings, Chain}
use Rattle.substitution.specs.Areas.{bindings_in, ComposedIn, ComposesIn, WithinArea}
use Rattle.substitution.proofs.Chains.{bindings_flatten, chain_flatten}
use Rattle.elimination.specs.Stack.{Whole, Fit, FitPairs}
use Rattle.elimination.specs.Area.{Room}
use Rattle.elimination.specs.Areas.{last_step, ApartIn, GoesOnIn, BindsIn, pairs_in}
use Rattle.unifier.specs.Running.{Roomy}
use Rattle.unifier.specs.Areas.{RunsIn, AnswersIn}
use Rattle.steps.proofs.Fitting.{FitStep, step_fit}
use Rattle.elimination.proofs.Tops.{pairs_are, top_weight, top_fit}
use Rattle.elimination.specs.declared.front.Front.{Front}
use Rattle.elimination.specs.Fronts.{FitFront, load_in, FrontRoom}
use Rattle.unifier.proofs.Resuming.{with_bindings, resumed, with_none, with_more, run_end, run_step, run_spent, finished}

-- at the head of the loop, with so much fuel left: the pairs ps wait from cell waiting on, the bindings bs are from cell made on, over the
-- names ns
pub record HoldsIn (a b : Area) (start : List Pair) (fuel left waiting made : ℕ) (apart : Option ℕ) : Type 0 where
  pub grows : Grows a b
  pub stack : waiting < b.free
  pub list : made < b.free
  pub within : left ≤ fuel
  pub ps : List Pair
  pub bs : List Binding
  pub ns : List Text
  pub waits : trees_in b waiting ≡ flatten ps
  pub binds : trees_in b made ≡ flatten_bindings bs
  pub over : OverPairs ns ps
  pub fit : FitPairs ps
  pub differs : ApartIn apart ps
  pub room : Room b.work.now (b.free + weight ps + 2 * left + 8196 * length ns + 4097 * (length ns + length bs))
  pub ran : run fuel start ≡ resumed bs (fuel - left) (run left ps)

pub holds_start : {a : Area} {stack fuel : ℕ} → stack < a.free → Whole (trees_in a stack) → FitPairs (pairs_in a stack) → Roomy a.work.now a.free fuel (pairs_in a stack)
    → HoldsIn a a (pairs_in a stack) fuel fuel stack 0 None
unfolding flatten_bindings
holds_start {a} {stack} {fuel} q whole fit r =
    let x = run fuel (pairs_in a stack) in
    let z : x.1 ≡ fuel - fuel + x.1 = omega arith in
    let room = r.room in
    record {
      grows = grows_same a;
      stack = q;
      list = a.arena.links.some;
      within = omega arith;
      ps = pairs_in a stack;
      bs = [];
      ns = r.names;
      waits = sym whole;
      binds = trees_none a.sheet.now a.work.now 0 refl;
      over = r.over;
      fit = fit;
      differs = tt;
      room = (omega (arith, room.0), omega (arith, room.1));
      ran = ap₂ (λ (v : Verdict) (k : ℕ). (v, k)) (sym (with_none x.0)) z;
    }

module _ {a b : Area} {start : List Pair} {fuel left waiting made : ℕ} {apart : Option ℕ} (h : HoldsIn a b start fuel left waiting made apart) where
  -- the bindings, as the cells have them
  made_are : bindings_in b made ≡ h.bs
  made_are = ap bindings_of h.binds ∙ bindings_flatten h.bs

  -- The ends

  pub holds_solved : 0 < left → pairs_in b waiting ≡ [] → RunsIn a b (run fuel start) (record { verdict = Ok made; spent = fuel - (left - 1) - 1 })
  holds_solved p e =
      let empty = sym (pairs_are h.ps h.waits) ∙ e in
      let z : fuel - left + 0 ≡ fuel - (left - 1) - 1 = omega arith in
      let room = h.room in
      let len = ap length made_are in
      record {
        grows = h.grows;
        is = h.ran ∙ ap (λ (qs : List Pair). resumed h.bs (fuel - left) (run left qs)) empty ∙ ap (λ (x : Answer). resumed h.bs (fuel - left) x) (run_end left p)
            ∙ ap₂ (λ (cs : List Binding) (k : ℕ). (solved (reverse cs), k)) (sym made_are) z;
        made = record { inside = h.list; chain = subst Chain (sym h.binds) (chain_flatten h.bs); room = omega (arith, room.0); fits = omega (arith, room.1) };
      }

  pub holds_spent : left ≡ 0 → RunsIn a b (run fuel start) (record { verdict = Err ending.Unsupported; spent = fuel })
  holds_spent e =
      let z : fuel - left + 0 ≡ fuel = omega arith in
      record {
        grows = h.grows;
        is = h.ran ∙ ap (λ (x : Answer). resumed h.bs (fuel - left) x) (run_spent left h.ps e) ∙ ap (λ (k : ℕ). (unsupported, k)) z;
        made = tt;
      }

  -- The pair on top

  module _ (f : Front) (t : pairs_in b waiting ≡ (tree_in b f.left, tree_in b f.right) ∷ pairs_in b f.rest) (p : 0 < left) where
    on_top : h.ps ≡ (tree_in b f.left, tree_in b f.right) ∷ pairs_in b f.rest
    on_top = sym (pairs_are h.ps h.waits) ∙ t

    -- what the step takes and makes of it
    abbrev pub taken_step : Step
    taken_step = step (tree_in b f.left) (tree_in b f.right) (pairs_in b f.rest)

    pub step_apart : ApartIn apart ((tree_in b f.left, tree_in b f.right) ∷ pairs_in b f.rest)
    step_apart = subst (ApartIn apart) on_top h.differs

    weighs : weight h.ps ≡ load_in b f + weight (pairs_in b f.rest)
    weighs = top_weight (tree_in b f.left) (tree_in b f.right) (pairs_in b f.rest) on_top

    fits : Fit (tree_in b f.left) × Fit (tree_in b f.right) × FitPairs (pairs_in b f.rest)
    fits = top_fit (tree_in b f.left) (tree_in b f.right) (pairs_in b f.rest) on_top h.fit

    pub step_fit_front : FitFront b f
    step_fit_front = (fits.0, fits.1)

    pub step_room : FrontRoom b f
    step_room = let room = h.room in (omega (arith, room.0, weighs), omega (arith, room.1, weighs))

    step_names : StepOver h.ns taken_step
    step_names =
        let o = subst (OverPairs h.ns) on_top h.over in
        step_over h.ns (tree_in b f.left) (tree_in b f.right) (pairs_in b f.rest) o.0 o.1 o.2

    step_fits : FitStep taken_step
    step_fits = step_fit (tree_in b f.left) (tree_in b f.right) (pairs_in b f.rest) fits.0 fits.1 fits.2

    taken_run : (d : Step) → taken_step ≡ d → run fuel start ≡ resumed h.bs (fuel - left) (after d (λ qs. run (left - 1) qs))
    taken_run d e =
        h.ran ∙ ap (λ (qs : List Pair). resumed h.bs (fuel - left) (run left qs)) on_top
        ∙ ap (λ (x : Answer). resumed h.bs (fuel - left) x) (run_step left (tree_in b f.left) (tree_in b f.right) (pairs_in b f.rest) p)
        ∙ ap (λ (d : Step). resumed h.bs (fuel - left) (after d (λ qs. run (left - 1) qs))) e

    counted : (k : ℕ) → fuel - left + (1 + k) ≡ fuel - (left - 1) + k
    counted k = omega (arith, h.within)

    last : fuel - left + 1 ≡ fuel - (left - 1)
    last = omega (arith, h.within)

    module _ {d : Area} where
      pub holds_over : (e : Ending) → (taken_step ≡ last_step e) × Grows b d → RunsIn a d (run fuel start) (record { verdict = Err e; spent = fuel - (left - 1) })
      holds_over ending.Failed g = record { grows = grows_then h.grows g.1; is = taken_run fails g.0 ∙ ap (λ (k : ℕ). (failed, k)) last; made = tt }
      holds_over ending.Unsupported g = record { grows = grows_then h.grows g.1; is = taken_run unknown g.0 ∙ ap (λ (k : ℕ). (unsupported, k)) last; made = tt }

      pub holds_next : {st : ℕ} {j : Option ℕ} → GoesOnIn b d (load_in b f + weight (pairs_in b f.rest)) taken_step st j
          → HoldsIn a d start fuel (left - 1) st made j
      holds_next {st} {j} g =
          let k = g.waits in
          let x = run (left - 1) g.pairs in
          let room = h.room in
          let w = weighs in
          let used = g.used in
          let len = k.grows.below.len in
          record {
            grows = grows_then h.grows k.grows;
            stack = k.inside;
            list = omega (arith, h.list, k.grows.grew);
            within = omega (arith, h.within);
            ps = g.pairs;
            bs = h.bs;
            ns = h.ns;
            waits = k.trees;
            binds = grows_trees k.grows made h.list ∙ h.binds;
            over = subst (StepOver h.ns) g.is step_names;
            fit = subst FitStep g.is step_fits;
            differs = g.apart;
            room = (omega (arith, room.0), omega (arith, room.1));
            ran = taken_run (goes_on g.pairs) g.is ∙ ap (λ (j : ℕ). (with_bindings h.bs x.0, j)) (counted x.1);
          }

      module _ {key value st : ℕ} (g : BindsIn b d taken_step key value st) where
        pub bind_room : HasRoom d 2
        bind_room = let room = h.room in let used = g.used in let len = g.waits.grows.below.len in (omega (arith, room.0), omega (arith, room.1))

        pub bind_cells : CellIn d key × CellIn d value × (made < d.free)
        bind_cells = (g.cells.0, g.cells.1, omega (arith, h.list, g.waits.grows.grew))

        pub holds_bind : {x : Area} {k : ℕ} → Lists d x k (more (tree_in d key) (more (tree_in d value) (trees_in d made))) → x.free ≡ d.free + 2 → HoldsIn a x start fuel (left - 1) st k None
        unfolding flatten_bindings
        holds_bind {x} j e =
            let k = g.waits in
            let l = adds_grows j.adds in
            let y = run (left - 1) g.pairs in
            let o = subst (StepOver h.ns) g.is step_names in
            let old = grows_trees k.grows made h.list ∙ h.binds in
            let room = h.room in
            let small = g.small in
            let used = g.used in
            let fewer = o.fewer in
            let heavy = weight_size g.pairs in
            let len = l.below.len ∙ k.grows.below.len in
            record {
              grows = grows_then (grows_then h.grows k.grows) l;
              stack = omega (arith, k.inside, l.grew);
              list = j.inside;
              within = omega (arith, h.within);
              ps = g.pairs;
              bs = (g.name, g.tree) ∷ h.bs;
              ns = without g.name h.ns;
              waits = grows_trees l st k.inside ∙ k.trees;
              binds = j.trees ∙ ap₂ (λ (y z : Tree). more y (more z (trees_in d made))) g.key_is g.value_is ∙ ap (λ (ts : Trees). more (variable g.name) (more g.tree ts)) old;
              over = o.waiting;
              fit = subst FitStep g.is step_fits;
              differs = tt;
              room = (omega (arith, room.0), omega (arith, room.1));
              ran = taken_run (bind g.name g.tree g.pairs) g.is
                  ∙ ap₂ (λ (y : Verdict) (i : ℕ). (y, i)) (with_more g.name g.tree h.bs y.0) (counted y.1);
            }

-- ---- the bindings composed

module _ {a b d : Area} {made spent : ℕ} (fuel : ℕ) (ps : List Pair) (r : RunsIn a b (run fuel ps) (record { verdict = Ok made; spent = spent })) where
  composed_solved : {k : ℕ} → ComposedIn b d (bindings_in b made) k → AnswersIn a d (unify fuel ps) (record { verdict = Ok k; spent = spent })
  composed_solved j = record {
    grows = grows_then r.grows (adds_grows j.adds);
    is = finished fuel ps _ r.is ∙ ap (λ (o : Option (List Binding)). (composed o, spent)) j.composed;
    bound = record { inside = j.inside; chain = j.chain; room = omega (arith, r.made.room, j.used, j.adds.grown.len) };
  }

  composed_over : (compose (reverse (bindings_in b made)) ≡ None) × WithinArea b d (4097 * length (bindings_in b made)) → AnswersIn a d (unify fuel ps) (record { verdict = Err ending.Unsupported; spent = spent })
  composed_over j = record {
    grows = grows_then r.grows (within_grows j.1);
    is = finished fuel ps _ r.is ∙ ap (λ (o : Option (List Binding)). (composed o, spent)) j.0;
    bound = tt;
  }

  pub composed_in : (o : Option ℕ) → ComposesIn b d (bindings_in b made) o → AnswersIn a d (unify fuel ps) (record { verdict = ok_or o ending.Unsupported; spent = spent })
  composed_in (Some k) j = composed_solved j
  composed_in None j = composed_over j

-- a run that does not end solved
pub answered_other : {a b : Area} (fuel : ℕ) (ps : List Pair) (v : Result ℕ Ending) (spent : ℕ) → RunsIn a b (run fuel ps) (record { verdict = v; spent = spent }) → ((k : ℕ) → v ≡ Ok k → ⊥)
    → AnswersIn a b (unify fuel ps) (record { verdict = v; spent = spent })
answered_other fuel ps (Ok k) spent r n = absurd (n k refl)
answered_other fuel ps (Err ending.Failed) spent r n = record { grows = r.grows; is = finished fuel ps _ r.is; bound = tt }
answered_other fuel ps (Err ending.Unsupported) spent r n = record { grows = r.grows; is = finished fuel ps _ r.is; bound = tt }
