-- The pairs of one member over an area, from its values and the variables.
use Prim.Native.Nat.{ℕ, ◌*◌, ◌<◌}
use mathlib.Core.Path.{◌≡◌, refl, sym, ap, ap₂, ◌∙◌}
use mathlib.Core.List.{List, []}
use native.Mathlib.Omega.{arith}
use Rattle.std.specs.Prelude.{Some, None}
use Rattle.rules.specs.Bytes.{Text}
use Rattle.rules.specs.Tree.{Trees, count}
use Rattle.rules.specs.Substitution.{Binding, Pair}
use Rattle.tree.specs.declared.area.Area.{Area}
use Rattle.tree.specs.Areas.{trees_in, Grows, HasRoom}
use Rattle.tree.proofs.Decoding.{trees_none}
use Rattle.tree.proofs.Keeping.{grows_then, grows_length, adds_grows, grows_trees}
use Rattle.substitution.specs.Bindings.{bindings_of}
use Rattle.substitution.specs.Areas.{bindings_in}
use Rattle.sheet.specs.declared.Read.{Read}
use Rattle.variables.specs.Listing.{backwards}
use Rattle.variables.specs.Pairing.{names_of, paired, flatten_before}
use Rattle.variables.specs.Areas.{names_in, SolutionIn, ValuesPairedIn}
use Rattle.variables.specs.declared.pairing.Solution.{Solution}
use Rattle.variables.proofs.Pairings.{before_none}
use Rattle.variables.proofs.Listed.{solution_grown}
use Rattle.values.specs.Values.{OneUnread}
use Rattle.values.specs.Areas.{ValuesIn, MemberPairedIn, PairsUpMemberIn, PairsRoomIn}
use Rattle.values.proofs.CoverLaws.{one_listed, pairs_every, pairs_none}

pub pairs_unread : {a b : Area} (s : Solution) (at : ℕ) → OneUnread a.sheet.now (names_of (trees_in a s.names)) at × Grows a b → PairsUpMemberIn a b s at None
pairs_unread {a} s at h = (
  (λ x es f. (let (y, o, e) = h.0 es f in pairs_none x es (bindings_in a s.bindings) (names_in a s.names) y (one_listed (names_of (trees_in a s.names)) y ∙ o) e)),
  h.1,
)

module _ {a b : Area} {s : Solution} {at : ℕ} {r : Read ℕ} (k : SolutionIn a s) (h : ValuesIn a b (names_of (trees_in a s.names)) at r) where
  names_are : trees_in b s.names ≡ trees_in a s.names
  names_are = grows_trees h.grows s.names k.names.inside

  bindings_are : bindings_in b s.bindings ≡ bindings_in a s.bindings
  bindings_are = ap bindings_of (grows_trees h.grows s.bindings k.bindings)

  pub pairs_links : (r.value < b.free) × (0 < b.free)
  pairs_links = (h.inside, b.arena.links.some)

  pub pairs_solution : SolutionIn b s
  pairs_solution = solution_grown h.grows k

  pub pairs_words : PairsRoomIn a s.names → HasRoom b (2 * count (trees_in b s.names))
  pairs_words w =
      let k = ap count names_are in
      (omega (arith, w.0, h.used, h.high, grows_length h.grows), omega (arith, w.1, h.used, h.high))

  pub pairs_made : {d : Area} {i : ℕ} → ValuesPairedIn b d r.value s 0 i → MemberPairedIn a d s at record { value = i; next = r.next }
  pairs_made {d} {i} u =
      let qs : List Pair = paired (bindings_in b r.value) (bindings_in b s.bindings) (names_in b s.names) in
      let xs : names_in b s.names ≡ names_in a s.names = ap (λ (ts : Trees). backwards (names_of ts) []) names_are in
      let k = ap count names_are in
      record {
        low = h.low;
        high = h.high;
        ends = h.ends;
        ps = qs;
        are = λ x es f. pairs_every x es (bindings_in a s.bindings) (bindings_in b r.value) (names_in a s.names) (λ y o. h.gives es f y (sym (one_listed (names_of (trees_in a s.names)) y) ∙ o))
            ∙ ap₂ (λ (bs : List Binding) (ns : List Text). Some (paired (bindings_in b r.value) bs ns)) (sym bindings_are) (sym xs);
        grows = grows_then h.grows (adds_grows u.lists.adds);
        inside = u.lists.inside;
        trees = u.lists.trees ∙ ap (flatten_before qs) (trees_none b.sheet.now b.work.now 0 refl) ∙ before_none qs;
        used = omega (arith, u.used, h.used);
      }
