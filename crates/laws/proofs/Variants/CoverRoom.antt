-- How large the pairs are by which a member covers: each pattern is a variable or what one of the member's texts reads as, and no text
-- serves for two variables.
use Prim.Native.Nat.{ℕ, suc, ◌+◌, ◌*◌, ◌≤◌, ◌<◌}
use native.Mathlib.Omega.{arith}
use mathlib.Core.Path.{◌≡◌, refl, sym, ◌∙◌, ap, subst}
use mathlib.Core.Bool.{Bool, true, false, cond}
use mathlib.Core.List.{List, [], ◌∷◌, map, Memᴰ}
use Rattle.std.specs.Prelude.{Option, Some, None}
use Rattle.laws.proofs.Basics.Somes.{some_injective}
use lib.ListN.{length}
use Rattle.rules.specs.Bytes.{Text, same}
use Rattle.rules.specs.Text.{count_of}
use Rattle.rules.specs.Maybe.{every}
use Rattle.rules.specs.Tree.{Tree, variable, size}
use Rattle.rules.specs.Substitution.{Binding, Pair, lookup, pick}
use Rattle.rules.specs.Solving.{solved, unify}
use Rattle.rules.specs.Reading.{parse}
use Rattle.rules.specs.Sheet.{Entry, Member, asks_cover, read_sheet, entry_values, member_texts}
use Rattle.rules.specs.Answer.{read_pairs}
use Rattle.rules.specs.Cover.{entry_at, general, variables_of, pair_at}
use Rattle.rules.specs.Families.{Against, nil, next}
use Rattle.rules.specs.Tidy.{Built, a_variable}
use Rattle.laws.specs.Memory.{entry_keys, load, weight, pattern_nodes, side_texts, member_keys, sheet_texts, sheet_keys}
use Rattle.laws.proofs.Basics.Tests.{same_eq, leb_true}
use Rattle.laws.proofs.Reading.Measures.{total}
use Rattle.laws.proofs.Reading.Colons.{parse_size}
use Rattle.laws.proofs.Reading.Builds.{builds, reads_within}
use Rattle.laws.proofs.Solving.Keeping.{Sides}
use Rattle.laws.proofs.Solving.Weights.{load_size, Upto}
use Rattle.laws.proofs.Sheets.BuiltRun.{BuiltPairs, Within, Writable, lookup_built, unify_writable}
use Rattle.laws.proofs.Sheets.Calls.{pairs_read}
use Rattle.laws.proofs.Sheets.SheetTexts.{total_append}
use Rattle.laws.proofs.Sheets.NamesRead.{names_bytes, sheet_bytes, pairs_names, pairs_keys_colons}
use Rattle.laws.proofs.Variants.Targets.{All}
use Rattle.laws.proofs.Variants.Covered.{paired}
use Rattle.laws.proofs.Variants.VariableNames.{variables_of_length}
use Rattle.laws.proofs.Variants.VariableOrder.{EachOnce, Token, token_colon, all_each, variables_of_once}

-- One entry for a variable

abbrev pub read_at : Text → Option Text → Option Tree
read_at x None = Some (variable x)
read_at x (Some text) = parse text

pub general_read : (m : Member) (x : Text) → general m x ≡ read_at x (entry_at m.1 x)
unfolding general
general_read m x = go (entry_at m.1 x)
  where
    go : (o : Option Text) → elim o [ None ↦ Some (variable x) | Some text ↦ parse text ] ≡ read_at x o
    go None = refl
    go (Some text) = refl

module _ (cost : Entry → ℕ) where
  -- the cost of the first entry with that key
  unfoldable paid_at : List Entry → Text → ℕ
  unfolding same
  paid_at [] x = 0
  paid_at (e ∷ es) x = cond (same e.0 x) (cost e) (paid_at es x)

  nothing_paid : (xs : List Text) → total (paid_at []) xs ≡ 0
  unfolding paid_at total
  nothing_paid [] = refl
  nothing_paid (x ∷ xs) = let h = nothing_paid xs in omega arith

  paid_past : (e : Entry) (es : List Entry) (xs : List Text) → All (λ y. same e.0 y ≡ false) xs → total (paid_at (e ∷ es)) xs ≡ total (paid_at es) xs
  unfolding paid_at total
  paid_past e es [] h = refl
  paid_past e es (x ∷ xs) h =
      let i = paid_past e es xs h.1 in
      let j = ap (λ (b : Bool). cond b (cost e) (paid_at es x)) h.0 in
      omega arith

  paid_first : (e : Entry) (es : List Entry) (xs : List Text) → EachOnce xs → total (paid_at (e ∷ es)) xs ≤ cost e + total (paid_at es) xs
  unfolding paid_at total
  paid_first e es [] h = omega arith
  paid_first e es (x ∷ xs) h = go (same e.0 x) refl (paid_first e es xs h.1)
    where
      go : (b : Bool) → same e.0 x ≡ b → total (paid_at (e ∷ es)) xs ≤ cost e + total (paid_at es) xs
          → cond b (cost e) (paid_at es x) + total (paid_at (e ∷ es)) xs ≤ cost e + (paid_at es x + total (paid_at es) xs)
      go true f ih =
          let i = paid_past e es xs (subst (λ (z : Text). All (λ y. same z y ≡ false) xs) (sym (same_eq e.0 x f)) h.0) in
          omega arith
      go false f ih = omega arith

  -- variables that stand once use each entry once
  paid_once : (es : List Entry) (xs : List Text) → EachOnce xs → total (paid_at es) xs ≤ total cost es
  unfolding total
  paid_once [] xs h = omega (arith, nothing_paid xs)
  paid_once (e ∷ es) xs h = omega (arith, paid_first e es xs h, paid_once es xs h)

  -- the member's tree at a variable: the variable, or what the first entry with that key reads as
  module _ (P : Tree → ℕ → Type 0) (x : Text) (itself : P (variable x) 0)
      (reads : (e : Entry) (t : Tree) → e.0 ≡ x → parse e.1 ≡ Some t → P t (cost e)) (t : Tree) where
    entry_by : (es : List Entry) → read_at x (entry_at es x) ≡ Some t → P t (paid_at es x)
    unfolding entry_at paid_at
    entry_by [] h = subst (λ (u : Tree). P u 0) (some_injective (variable x) t h) itself
    entry_by (e ∷ es) h = go (same e.0 x) refl h (entry_by es)
      where
        go : (b : Bool) → same e.0 x ≡ b → read_at x (elim b [ true ↦ Some e.1 | false ↦ entry_at es x ]) ≡ Some t
            → (read_at x (entry_at es x) ≡ Some t → P t (paid_at es x)) → P t (cond b (cost e) (paid_at es x))
        go true k f ih = reads e t (same_eq e.0 x k) f
        go false k f ih = ih f

    general_by : (m : Member) → general m x ≡ Some t → P t (paid_at m.1 x)
    general_by m h = entry_by m.1 (sym (general_read m x) ∙ h)

module _ (f : Text → ℕ) where
  values_total : (es : List Entry) → total (λ e. f e.1) es ≡ total f (entry_values es)
  unfolding total entry_values
  values_total [] = refl
  values_total (e ∷ es) = ap (λ (n : ℕ). f e.1 + n) (values_total es)

-- what an entry may weigh: a byte for each node of its tree, and a limited tree against it
abbrev heavy : Entry → ℕ
heavy e = length e.1 + 4095 * count_of 58 e.0

heavy_total : (es : List Entry) → total heavy es ≡ total length (entry_values es) + 4095 * total (count_of 58) (entry_keys es)
unfolding total entry_values entry_keys
heavy_total [] = refl
heavy_total (e ∷ es) = let h = heavy_total es in omega arith

-- The pairs of a member

-- the answer's tree at a variable is as reading builds it
abbrev pub Limited : List Binding → Text → Type 0
Limited bs x = Built (lookup bs x) × (size (lookup bs x) ≤ 4096)

module _ (bs : List Binding) (m : Member) where
  nodes_paid : {xs : List Text} {qs : List Pair} → Against bs m xs qs → pattern_nodes qs ≤ length xs + total (paid_at (λ e. length e.1) m.1) xs
  unfolding pattern_nodes total size
  nodes_paid nil = omega arith
  nodes_paid (next {x} {g = g} f e a) =
      omega (
        arith,
        nodes_paid a,
        general_by (λ e. length e.1) (λ t n. size t ≤ suc n) x (omega arith) (λ n t k r. omega (arith, parse_size n.1 t r)) g m f,
      )

  -- a node for each variable, or for each byte of a text
  pub cover_nodes : {xs : List Text} {qs : List Pair} → EachOnce xs → Against bs m xs qs → pattern_nodes qs ≤ length xs + total length (entry_values m.1)
  cover_nodes {xs} o a = omega (arith, nodes_paid a, paid_once (λ e. length e.1) m.1 xs o, values_total length m.1)

  load_entry : (x : Text) (u : Tree) → Token x → size u ≤ 4096 → (e : Entry) (t : Tree) → e.0 ≡ x → parse e.1 ≡ Some t → load t u ≤ heavy e
  load_entry x u k l e t i r =
      let j = ap (count_of 58) i in
      omega (arith, load_size t u, parse_size e.1 t r, token_colon x k)

  weight_paid : {xs : List Text} {qs : List Pair} → All Token xs → All (Limited bs) xs → Against bs m xs qs → weight qs ≤ total (paid_at heavy m.1) xs
  unfolding weight total load
  weight_paid k l nil = omega arith
  weight_paid k l (next {x} {g = g} {u = u} f e a) =
      let i = subst (λ (v : Tree). size v ≤ 4096) e l.0.1 in
      omega (arith, weight_paid k.1 l.1 a, general_by heavy (λ t n. load t u ≤ n) x (omega arith) (load_entry x u k.0 i) g m f)

  -- only a key of the member weighs
  pub cover_weight : {xs : List Text} {qs : List Pair} → EachOnce xs → All Token xs → All (Limited bs) xs → Against bs m xs qs
      → weight qs ≤ total length (entry_values m.1) + 4095 * total (count_of 58) (entry_keys m.1)
  cover_weight {xs} o k l a = omega (arith, weight_paid k l a, paid_once heavy m.1 xs o, heavy_total m.1)

  general_limited : (x : Text) (t : Tree) → Token x → general m x ≡ Some t → Built t × (size t ≤ 4096)
  unfolding size
  general_limited x t k f =
      general_by heavy (λ u n. Built u × (size u ≤ 4096)) x (a_variable k, omega arith) (λ e u i r. (builds e.1 u r, reads_within e.1 u r)) t m f

  -- both sides are as reading builds them
  pub cover_built : {xs : List Text} {qs : List Pair} → All Token xs → All (Limited bs) xs → Against bs m xs qs → BuiltPairs qs × Sides (Upto 4096) (Upto 4096) qs
  cover_built k l nil = (tt, tt)
  cover_built k l (next {x} {g = g} f e a) =
      let (b, i) = general_limited x g k.0 f in
      let (c, j) = subst (λ (v : Tree). Built v × (size v ≤ 4096)) e l.0 in
      let (d, n) = cover_built k.1 l.1 a in
      ((b, c, d), (i, j, n))

-- Sheets

lookup_within : (bs : List Binding) → Within bs → (x : Text) → size (lookup bs x) ≤ 4096
unfolding lookup size
lookup_within [] h x = omega arith
lookup_within (b ∷ bs) h x = go (same b.0 x) (lookup_within bs h.1 x)
  where
    go : (c : Bool) → size (lookup bs x) ≤ 4096 → size (pick c b.1 (lookup bs x)) ≤ 4096
    go true k = leb_true (size b.1) 4096 h.0
    go false k = k

-- what unify answers at variables
pub unify_limited : (k : ℕ) (ps : List Pair) (bs : List Binding) → BuiltPairs ps → (unify k ps).0 ≡ solved bs → (xs : List Text) → All Token xs
    → All (Limited bs) xs
unify_limited k ps bs b e xs = all_each Token (Limited bs) (λ x t. (lookup_built bs w.0 x t, lookup_within bs w.1 x)) xs
  where
    w : Writable (solved bs)
    w = subst Writable e (unify_writable k ps b)

module _ (f : Text → ℕ) where
  pub keys_within : (ms : List Member) (m : Member) → Memᴰ m ms → total f (entry_keys m.1) ≤ total f (member_keys ms)
  unfolding member_keys
  keys_within [] m x' = elim x' [ ]
  keys_within (n ∷ ms) m (Memᴰ.head e) =
      let i = ap (λ (z : Member). total f (entry_keys z.1)) e in
      omega (arith, total_append f (entry_keys n.1) (member_keys ms))
  keys_within (n ∷ ms) m (Memᴰ.tail h) = omega (arith, keys_within ms m h, total_append f (entry_keys n.1) (member_keys ms))

  pub texts_within : (ms : List Member) (m : Member) → Memᴰ m ms → f m.0 + total f (entry_values m.1) ≤ total f (member_texts ms)
  unfolding member_texts total
  texts_within [] m x' = elim x' [ ]
  texts_within (n ∷ ms) m (Memᴰ.head e) =
      let i = ap (λ (z : Member). f z.0 + total f (entry_values z.1)) e in
      omega (arith, total_append f (entry_values n.1) (member_texts ms))
  texts_within (n ∷ ms) m (Memᴰ.tail h) = omega (arith, texts_within ms m h, total_append f (entry_values n.1) (member_texts ms))

module _ (s : Text) (es : List Entry) (ms : List Member) (reads : read_sheet s ≡ Some (asks_cover es ms)) (ps : List Pair) (pairs : read_pairs es ≡ Some ps)
    (m : Member) (listed : Memᴰ m ms) where
  -- a colon for each variable, and those of the member's keys
  pub cover_colons : length (variables_of ps) + total (count_of 58) (entry_keys m.1) ≤ count_of 58 s
  unfolding sheet_keys
  cover_colons =
      omega (arith, variables_of_length ps, pairs_keys_colons s (asks_cover es ms) reads ps pairs, keys_within (count_of 58) ms m listed)

  -- a byte for each variable, and those of the member's values
  pub cover_bytes : length (variables_of ps) + total length (entry_values m.1) < length s
  unfolding sheet_texts
  cover_bytes =
      let e = ap (λ (ns : List Text). length ns) (pairs_names es ps pairs) in
      omega (
        arith,
        e,
        variables_of_length ps,
        names_bytes (side_texts es),
        sheet_bytes s (asks_cover es ms) reads,
        total_append length (side_texts es) (member_texts ms),
        texts_within length ms m listed,
      )

-- what the pairs that a member is matched by take: so many variables, bytes of texts and colons of keys, and what one pair more may weigh
pub record MatchRoom (s : Text) (qs : List Pair) (names texts keys last : ℕ) : Type 0 where
  pub nodes : pattern_nodes qs ≤ names + texts
  pub weighs : weight qs ≤ texts + 4095 * keys + last
  pub colons : names + keys ≤ count_of 58 s
  pub bytes : names + texts < length s
  pub built : BuiltPairs qs
  pub within : Sides (Upto 4096) (Upto 4096) qs

pub cover_room : (s : Text) (es : List Entry) (ms : List Member) → read_sheet s ≡ Some (asks_cover es ms) → (ps : List Pair) → read_pairs es ≡ Some ps
    → (k : ℕ) (bs : List Binding) → (unify k ps).0 ≡ solved bs → (m : Member) → Memᴰ m ms
    → (qs : List Pair) → every (map (pair_at bs m) (variables_of ps)) ≡ Some qs
    → MatchRoom s qs (length (variables_of ps)) (total length (entry_values m.1)) (total (count_of 58) (entry_keys m.1)) 0
cover_room s es ms reads ps pairs k bs e m listed qs f =
    let b = (pairs_read es ps pairs).0 in
    let (once, tokens) = variables_of_once ps b in
    let limits = unify_limited k ps bs b e (variables_of ps) tokens in
    let a = paired bs m (variables_of ps) qs f in
    let g = cover_built bs m tokens limits a in
    record {
      nodes = cover_nodes bs m once a;
      weighs = omega (arith, cover_weight bs m once tokens limits a);
      colons = cover_colons s es ms reads ps pairs m listed;
      bytes = cover_bytes s es ms reads ps pairs m listed;
      built = g.0;
      within = g.1;
    }
