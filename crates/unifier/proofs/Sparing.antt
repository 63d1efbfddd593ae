-- A run in the first words of a work area: its pairs there, and its answer in the whole of it.
use Prim.Native.Nat.{ℕ, ◌+◌, ◌*◌, ◌<◌, ◌≤◌, ◌^◌}
use mathlib.Core.Path.{◌≡◌, refl, sym, ap, subst, ◌∙◌}
use mathlib.Core.List.{List, ◌++◌}
use lib.ListN.{length, take, drop, length-append, length-drop, take-append-drop}
use lib.Seq.{length-take-le, take-append_seam, drop-append_seam}
use native.Mathlib.Omega.{arith}
use Rattle.rules.specs.Bytes.{Text}
use Rattle.rules.specs.Tree.{Trees, sizes}
use Rattle.rules.specs.Substitution.{Pair, flatten}
use Rattle.laws.proofs.Solving.Weights.{weight_size}
use Rattle.laws.proofs.Solving.Budget.{flatten_size}
use Rattle.tree.specs.Cells.{trees_at}
use Rattle.tree.specs.Arena.{Arena, Below}
use Rattle.tree.proofs.Areas.{arena_agrees}
use Rattle.tree.proofs.Decoding.{Agree, frame_trees}
use Rattle.tree.proofs.Parting.{Parted, parted, part_agree, part_arena, part_trees}
use Rattle.unifier.specs.Running.{Roomy}
use Rattle.std.specs.Prelude.{Result, Ok, Err}
use Rattle.rules.specs.declared.Ending.{Ending}
use Rattle.rules.specs.Solving.{Answer, solved}
use Rattle.tree.specs.declared.area.Area.{Area}
use Rattle.tree.specs.Areas.{trees_in, Lent, Grows}
use Rattle.substitution.specs.Bindings.{bindings_of, Chain}
use Rattle.elimination.specs.declared.room.TheConstants.{STEP_WORDS}
use Rattle.unifier.specs.Areas.{NamesFew, spared_end, HoldsBound, AnswersIn, EndsIn}

-- the room of a run, by the nodes of its pairs, in so many words
pub roomy_few : {w : List ℕ} {ps : List Pair} (n fuel nodes names : ℕ) → 4 * spared_end n nodes fuel names + STEP_WORDS ≤ length w → spared_end n nodes fuel names + 65536 < 2 ^ 32
    → nodes ≡ sizes (flatten ps) → NamesFew names ps → Roomy w n fuel ps
roomy_few {ps = ps} n fuel nodes names l m e f =
    let x = flatten_size ps in
    let y = weight_size ps in
    let z = f.few in
    record { names = f.names; over = f.over; room = (omega arith, omega arith) }

-- a part of so many words, and the rest
pub part_is : (w f r : List ℕ) (limit : ℕ) → w ≡ f ++ r → length f ≡ limit → (f ≡ take limit w) × (r ≡ drop limit w)
part_is w f r limit e l = rw (e, ← l) (sym (take-append_seam f r), sym (drop-append_seam f r))

module _ {s : Text} {w : List ℕ} {n : ℕ} (limit : ℕ) (h : limit ≤ length w) (l : 4 * n ≤ limit) (a : Arena s w n) where
  parts : Parted w (take limit w) (drop limit w) limit
  parts = parted _ _ _ _ (sym (take-append-drop limit w)) (length-take-le limit w h)

  pub spared_arena : Arena s (take limit w) n
  spared_arena = part_arena parts n l s a

  pub spared_trees : (k : ℕ) → k < n → trees_at s w k ≡ trees_at s (take limit w) k
  spared_trees k q = sym (part_trees parts n l s a k q)

  pub spared_length : limit ≤ length (take limit w)
  spared_length = omega (arith, length-take-le limit w h)

  module _ {u : List ℕ} (b : Below (take limit w) u n) where
    pub long : length u ≡ limit
    long = b.len ∙ length-take-le limit w h

    whole : Parted (u ++ drop limit w) u (drop limit w) limit
    whole = parted _ _ _ _ refl long

    pub spared_below : Below w (u ++ drop limit w) n
    spared_below = record {
      len = simp (length-append, length-drop) (omega (arith, long));
      words = λ p q. part_agree parts n l p q ∙ b.words p q ∙ sym (part_agree whole n l p q);
    }

    module _ {m : ℕ} (t : 4 * m ≤ limit) (c : Arena s u m) where
      back : Agree u (u ++ drop limit w) m
      back p q = sym (part_agree whole m t p q)

      pub whole_arena : Arena s (u ++ drop limit w) m
      whole_arena = arena_agrees s c (omega (arith, spared_below.len)) back

      pub whole_trees : (k : ℕ) → k < m → trees_at s u k ≡ trees_at s (u ++ drop limit w) k
      whole_trees k q = frame_trees s (u ++ drop limit w) c.links back k q

-- the same over areas: p is the part of a, q what a run makes of it, u its words then
module _ {p q : Area} (a : Area) (limit : ℕ) (h : limit ≤ length a.work.now) (l : 4 * a.free ≤ limit) (sp : p.sheet ≡ a.sheet) (wp : p.work.now ≡ take limit a.work.now) (fp : p.free ≡ a.free) (g : Grows p q) (u : List ℕ) (e : u ≡ q.work.now) where
  kept : Below (take limit a.work.now) u a.free
  kept = subst (λ (n : ℕ). Below (take limit a.work.now) u n) fp (subst (λ (w : List ℕ). Below w u p.free) wp (subst (λ (v : List ℕ). Below p.work.now v p.free) (sym e) g.below))

  run_arena : Arena a.sheet.now u q.free
  run_arena = subst (λ (v : List ℕ). Arena a.sheet.now v q.free) (sym e) (subst (λ s. Arena s.now q.work.now q.free) (g.lent.sheet ∙ sp) q.arena)

  end_inside : 4 * q.free ≤ limit
  end_inside = omega (arith, q.arena.links.room, ap length e, long limit h l a.arena kept)

  pub spared_whole : Arena a.sheet.now (u ++ drop limit a.work.now) q.free
  spared_whole = whole_arena limit h l a.arena kept end_inside run_arena

  module _ {b : Area} {r : List ℕ} (er : r ≡ drop limit a.work.now) (lent : Lent a b) (wr : b.work.now ≡ u ++ r) (fb : b.free ≡ q.free) where
    wb : b.work.now ≡ u ++ drop limit a.work.now
    wb = wr ∙ ap (λ (r : List ℕ). u ++ r) er

    spared_grows : Grows a b
    spared_grows = record { lent = lent; grew = omega (arith, g.grew, fp, fb); below = rw wb (spared_below limit h l a.arena kept) }

    spared_list : (k : ℕ) → k < q.free → trees_in q k ≡ trees_in b k
    spared_list k i =
        ap (λ s. trees_at s.now q.work.now k) (g.lent.sheet ∙ sp)
        ∙ ap (λ (w : List ℕ). trees_at a.sheet.now w k) (sym e)
        ∙ whole_trees limit h l a.arena kept end_inside run_arena k i
        ∙ ap (λ (w : List ℕ). trees_at a.sheet.now w k) (sym wb)
        ∙ sym (ap (λ s. trees_at s.now b.work.now k) lent.sheet)

    pub spared_answers : {x : Answer} (v : Result ℕ Ending) (n : ℕ) → AnswersIn p q x (record { verdict = v; spent = n }) → AnswersIn a b x (record { verdict = v; spent = n })
    spared_answers (Ok k) n r =
        let t = spared_list k r.bound.inside in
        record {
          grows = spared_grows;
          is = r.is ∙ ap (λ (ts : Trees). (solved (bindings_of ts), n)) t;
          bound = record { inside = omega (arith, r.bound.inside, fb); chain = subst Chain t r.bound.chain; room = omega (arith, r.bound.room, ap length e, long limit h l a.arena kept, spared_grows.below.len, fb) };
        }
    spared_answers (Err e) n r = record { grows = spared_grows; is = r.is; bound = tt }

  pub spared_ends : (m : ℕ) (v : Result ℕ Ending) → HoldsBound q v → limit ≡ 4 * m + STEP_WORDS → EndsIn q v m
  spared_ends m (Ok k) r f = omega (arith, r.room, ap length e, long limit h l a.arena kept)
  spared_ends m (Err e) r f = tt
