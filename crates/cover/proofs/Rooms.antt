-- The words that a sheet of kind `cover` needs are enough for the variables of its pairs, for the run over them, and after it for the
-- match of each member.
use Prim.Native.Nat.{ℕ, suc, ◌+◌, ◌*◌, ◌-◌, ◌<◌, ◌≤◌, ◌^◌}
use mathlib.Core.Path.{◌≡◌, refl, sym, ap, subst, ◌∙◌}
use mathlib.Core.List.Memᴰ
use mathlib.Core.List.{List, [], ◌∷◌, ◌++◌, map, Memᴰ}
use mathlib.Core.Logic.{inl, inr}
use Rattle.std.specs.Prelude.{Some}
use lib.ListN.{length}
use native.Mathlib.Omega.{arith}
use native.Mathlib.Decide.{dec_lt}
use Rattle.rules.specs.Bytes.{Text}
use Rattle.rules.specs.Text.{count_of}
use Rattle.rules.specs.Maybe.{every}
use Rattle.rules.specs.Tree.{sizes, variable_names, variable_names_in}
use Rattle.rules.specs.Tidy.{Builts, nil, both}
use Rattle.rules.specs.Substitution.{Binding, Pair, size_pairs, flatten}
use Rattle.rules.specs.Solving.{solved, unify}
use Rattle.laws.specs.Memory.{OverPairs, weight, pattern_nodes, side_texts, entry_keys, sheet_texts}
use Rattle.rules.specs.Sheet.{Entry, Member, Sheet, asks_cover, words_needed, member_texts, entry_values}
use Rattle.rules.specs.Answer.{read_pairs}
use Rattle.rules.specs.Cover.{variables_of, pair_at}
use Rattle.rules.specs.Families.{Against, nil as no_more, next}
use Rattle.laws.specs.Parts.{PartOf}
use Rattle.laws.proofs.Reading.Measures.{total}
use Rattle.laws.proofs.Reading.Colons.{parse_size}
use Rattle.laws.proofs.Solving.Keeping.{Sides}
use Rattle.laws.proofs.Solving.Weights.{load_size, Upto}
use Rattle.laws.proofs.Solving.Budget.{flatten_size}
use Rattle.laws.proofs.Sheets.BuiltRun.{BuiltPairs}
use Rattle.laws.proofs.Sheets.Calls.{pairs_read}
use Rattle.laws.proofs.Sheets.SheetTexts.{total_append}
use Rattle.laws.proofs.Sheets.SheetParts.{sheet_parts}
use Rattle.laws.proofs.Renaming.Completing.{all_left}
use Rattle.laws.proofs.Variants.Targets.{All}
use Rattle.laws.proofs.Sheets.NamesRead.{sheet_bytes, pairs_read_by, pairs_colons, pairs_sizes, pairs_over, sides_held, sheet_names}
use Rattle.laws.proofs.Variants.Covered.{paired}
use Rattle.laws.proofs.Variants.VariableNames.{variables_of_length}
use Rattle.laws.proofs.Variants.CoverRoom.{texts_within, cover_room}
use Rattle.tree.specs.Cells.{trees_at}
use Rattle.forms.proofs.WordLaws.{count_bound}
use Rattle.elimination.specs.declared.room.TheConstants.{STEP_WORDS, NAME_CELLS}
use Rattle.elimination.specs.Stack.{pairs_at}
use Rattle.steps.proofs.Fitting.{fit_sides}
use Rattle.variables.proofs.Shortness.{short_read}
use Rattle.variables.specs.Variables.{Short, ReadableAll}
use Rattle.unifier.specs.Matched.{Matched}
use Rattle.cover.specs.Covered.{CoverInput}

-- ---- pairs

flatten_built : (ps : List Pair) → BuiltPairs ps → Builts (flatten ps)
unfolding flatten
flatten_built [] h = nil
flatten_built (p ∷ ps) h = both h.0 (both h.1 (flatten_built ps h.2))

short_append : (xs ys : List Text) → Short xs → Short ys → Short (xs ++ ys)
short_append xs ys p q x m = elim (Memᴰ.append_cases xs m) [ inl a ↦ p x a | inr b ↦ q x b ]

flatten_short : (s : Text) → length s ≤ 65536 → (es : List Entry) (ps : List Pair) → read_pairs es ≡ Some ps → All (PartOf s) (side_texts es) → Short (variable_names_in (flatten ps))
unfolding flatten variable_names side_texts
flatten_short s l = pairs_read_by (λ es ps. All (PartOf s) (side_texts es) → Short (variable_names_in (flatten ps))) (λ h x m. absurd (Memᴰ.not-nil m))
    (λ e es p ps f g ih h. short_append (variable_names p.0) (variable_names p.1 ++ variable_names_in (flatten ps)) (short_read s e.0 p.0 l h.0 f)
    (short_append (variable_names p.1) (variable_names_in (flatten ps)) (short_read s e.1 p.1 l h.1.0 g) (ih h.1.1)))

-- a pair weighs less than its pattern has nodes and its subject may have
weight_sides : (qs : List Pair) → Sides (Upto 4096) (Upto 4096) qs → weight qs ≤ pattern_nodes qs + 4094 * length qs
unfolding weight pattern_nodes
weight_sides [] h = omega arith
weight_sides (q ∷ qs) h = let i = h.1 in omega (arith, weight_sides qs h.2, load_size q.0 q.1)

against_length : {bs : List Binding} {m : Member} {xs : List Text} {qs : List Pair} → Against bs m xs qs → length qs ≡ length xs
against_length no_more = refl
against_length (next f e a) = ap suc (against_length a)

texts_bytes : (es : List Entry) (ps : List Pair) → read_pairs es ≡ Some ps → size_pairs ps ≤ total length (side_texts es)
unfolding size_pairs total side_texts
texts_bytes = pairs_read_by (λ es ps. size_pairs ps ≤ total length (side_texts es)) (omega arith)
    (λ e es p ps l r h. omega (arith, h, parse_size e.0 p.0 l, parse_size e.1 p.1 r))

-- ---- words: x variables, t bytes of the member's values, k colons of its keys, n nodes of the pairs, c colons and b bytes of the sheet

-- the cells of the run over the pairs end below these words
abbrev pub run_end : ℕ → ℕ → ℕ → ℕ → ℕ
run_end at x n c = 1 + 2 * at + x + n + 131072 + NAME_CELLS * c

module _ (x t k n c b at top weigh : ℕ) (colons : x + k ≤ c) (texts : n + t < b) (short : b ≤ 65536) (inside : at ≤ b) (by_keys : weigh ≤ t + 4095 * k) (by_names : weigh ≤ t + 4095 * x)
    (used : top ≤ run_end at x n c) where
  fewer_keys : k ≤ x → 4 * (top + 2 * (b - at) + 2 * x + weigh + 2 * b) + STEP_WORDS ≤ 65536 * (c + 16) + 16 * b
  fewer_keys h = omega arith

  fewer_names : x < k → 4 * (top + 2 * (b - at) + 2 * x + weigh + 2 * b) + STEP_WORDS ≤ 65536 * (c + 16) + 16 * b
  fewer_names h = omega arith

  match_words : 4 * (top + 2 * (b - at) + 2 * x + weigh + 2 * b) + STEP_WORDS ≤ 65536 * (c + 16) + 16 * b
  match_words = elim (dec_lt x k) [ yes h ↦ fewer_names h | no h ↦ fewer_keys (omega arith) ]

  match_cells : c ≤ 65536 → top + 2 * (b - at) + 2 * x + weigh + 2 * b + 65536 < 2 ^ 32
  match_cells h = omega arith

-- ---- a sheet of kind `cover`

module _ {s : Text} {w : List ℕ} {free stack at : ℕ} (k : CoverInput s w free stack at) where
  abbrev ps : List Pair
  ps = pairs_at s w stack

  abbrev sheet : Sheet
  sheet = asks_cover k.entries k.members

  pub asked_nodes : sizes (trees_at s w stack) ≡ size_pairs ps
  asked_nodes = ap sizes (sym k.whole) ∙ flatten_size ps

  pub asked_spelled : ReadableAll (trees_at s w stack)
  unfolding sheet_texts
  asked_spelled = subst ReadableAll k.whole record {
    built = flatten_built ps (pairs_read k.entries ps k.pairs).0;
    short = flatten_short s k.short k.entries ps k.pairs (all_left (PartOf s) (side_texts k.entries) (member_texts k.members) (sheet_parts s sheet k.reads));
  }

  pub asked_few : size_pairs ps ≤ length s
  asked_few = pairs_sizes s sheet k.reads ps k.pairs

  pub asked_names : length (variables_of ps) ≤ count_of 58 s
  asked_names = omega (arith, variables_of_length ps, pairs_colons s sheet k.reads ps k.pairs)

  pub asked_colons : count_of 58 s ≤ 65536
  asked_colons = count_bound 58 s k.short refl

  -- the variables that the run is over
  pub asked_over : (ns : List Text) × (length ns ≤ count_of 58 s) × OverPairs ns ps
  asked_over =
      let (ns, l, h) = sheet_names s sheet k.reads in
      (ns, l, pairs_over ns k.entries ps k.pairs (sides_held ns sheet h))

  asked_bytes : (m : Member) → Memᴰ m k.members → size_pairs ps + total length (entry_values m.1) < length s
  unfolding sheet_texts
  asked_bytes m l =
      omega (
        arith,
        texts_bytes k.entries ps k.pairs,
        sheet_bytes s sheet k.reads,
        total_append length (side_texts k.entries) (member_texts k.members),
        texts_within length k.members m l,
      )

  -- after the run each member can be matched
  pub asked_matched : (bs : List Binding) → (unify 65536 ps).0 ≡ solved bs → (top : ℕ) → top ≤ run_end at (length (variables_of ps)) (size_pairs ps) (count_of 58 s)
      → {v : List ℕ} → length v ≡ length w → (n : ℕ) → n ≡ top + 2 * (length s - at) + 2 * length (variables_of ps)
      → (m : Member) → Memᴰ m k.members → (qs : List Pair) → every (map (pair_at bs m) (variables_of ps)) ≡ Some qs → Matched s v n qs
  unfolding words_needed
  asked_matched bs e top u {v} z n f m l qs d =
      let r = cover_room s k.entries k.members k.reads ps k.pairs 65536 bs e m l qs d in
      let x = length (variables_of ps) in
      let t = total length (entry_values m.1) in
      let keys = total (count_of 58) (entry_keys m.1) in
      let i = against_length (paired bs m (variables_of ps) qs d) in
      let by_names : weight qs ≤ t + 4095 * x = omega (arith, weight_sides qs r.within, r.nodes) in
      let by_keys : weight qs ≤ t + 4095 * keys = omega (arith, r.weighs) in
      let words = match_words x t keys (size_pairs ps) (count_of 58 s) (length s) at top (weight qs) r.colons (asked_bytes m l) k.short k.inside by_keys by_names u in
      let cells = match_cells x t keys (size_pairs ps) (count_of 58 s) (length s) at top (weight qs) r.colons (asked_bytes m l) k.short k.inside by_keys by_names u asked_colons in
      let enough : 4 * (n + weight qs + 2 * length s) + STEP_WORDS ≤ length v = omega (arith, words, f, z, k.words) in
      let fits : n + weight qs + 2 * length s + 65536 < 2 ^ 32 = omega (arith, cells, f) in
      record {
        fit = fit_sides qs r.built r.within;
        few = omega (arith, r.nodes, r.bytes);
        room = (enough, fits);
      }
