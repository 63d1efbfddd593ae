-- How large the pairs are by which a member generalizes a scheme: those of a member that covers, and one more.
use Prim.Native.Nat.{ℕ, ◌+◌, ◌≤◌, ◌<◌}
use native.Mathlib.Omega.{arith}
use mathlib.Core.Path.{◌≡◌, refl, ◌∙◌, ap, subst}
use mathlib.Core.Bool.{Bool, true, false}
use mathlib.Core.List.{List, [], ◌∷◌, ◌++◌, map, Memᴰ}
use Rattle.std.specs.Prelude.{Some}
use Rattle.laws.proofs.Basics.Somes.{some_injective}
use lib.ListN.{length, length-append}
use Rattle.rules.specs.Bytes.{Text, same}
use Rattle.rules.specs.Text.{count_of}
use Rattle.rules.specs.Names.{variable_token}
use Rattle.rules.specs.Maybe.{◌>>=◌, every}
use Rattle.rules.specs.Tree.{Tree, size, variable_names}
use Rattle.rules.specs.Substitution.{Binding, Pair, pick, lookup, instantiate}
use Rattle.rules.specs.Solving.{solved, unify}
use Rattle.rules.specs.Reading.{parse}
use Rattle.rules.specs.Sheet.{Entry, Member, asks_complete, read_sheet, entry_values, member_texts}
use Rattle.rules.specs.Cover.{variables, entry_at}
use Rattle.rules.specs.Variants.{Variant, read_entry, read_member, Scheme, schemes_from, system}
use Rattle.rules.specs.Families.{Against, nil, next}
use Rattle.laws.specs.Memory.{entry_keys, sheet_texts, sheet_keys, names_read, load, weight, pattern_nodes}
use Rattle.laws.proofs.Basics.Options.{bound}
use Rattle.laws.proofs.Reading.Measures.{total}
use Rattle.laws.proofs.Reading.Colons.{parse_colons, parse_size, colons_upto}
use Rattle.laws.proofs.Reading.Builds.{builds, reads_within}
use Rattle.laws.proofs.Solving.Keeping.{Sides}
use Rattle.laws.proofs.Solving.Weights.{load_size, Upto}
use Rattle.laws.proofs.Sheets.NamesRead.{names_some, sheet_colons, sheet_bytes}
use Rattle.laws.proofs.Variants.Targets.{pairs_append, system_built, target_built, target_within}
use Rattle.laws.proofs.Variants.VariableNames.{variables_length}
use Rattle.laws.proofs.Variants.VariableOrder.{variables_once}
use Rattle.laws.proofs.Variants.CoverRoom.{read_at, general_read, cover_nodes, cover_weight, cover_built, unify_limited, keys_within, texts_within, MatchRoom}

-- A member that is read gives each variable the tree that it gives in cover

entries_general : (es : List Entry) (bs : List Binding) → every (map read_entry es) ≡ Some bs → (x : Text) → read_at x (entry_at es x) ≡ Some (lookup bs x)
unfolding every read_entry entry_at lookup
entries_general [] bs h x = ap (λ (cs : List Binding). Some (lookup cs x)) (some_injective [] bs h)
entries_general (e ∷ es) bs h x =
    let (b, f, h₁) = bound (parse e.1 >>= λ t. Some (e.0, t)) _ bs h in
    let (t, g, f₁) = bound (parse e.1) (λ u. Some (e.0, u)) b f in
    let (cs, i, h₂) = bound (every (map read_entry es)) _ bs h₁ in
    subst (λ (ds : List Binding). read_at x (entry_at (e ∷ es) x) ≡ Some (lookup ds x)) (some_injective (b ∷ cs) bs h₂)
    (subst (λ (c : Binding). read_at x (entry_at (e ∷ es) x) ≡ Some (lookup (c ∷ cs) x)) (some_injective (e.0, t) b f₁)
    (first (same e.0 x) t cs g (entries_general es cs i x)))
  where
    first : (c : Bool) (t : Tree) (cs : List Binding) → parse e.1 ≡ Some t → read_at x (entry_at es x) ≡ Some (lookup cs x)
        → read_at x (elim c [ true ↦ Some e.1 | false ↦ entry_at es x ]) ≡ Some (pick c t (lookup cs x))
    first true t cs g k = g
    first false t cs g k = k

-- the texts of a member that is read
member_parts : (m : Member) (v : Variant) → read_member m ≡ Some v → (parse m.0 ≡ Some v.0) × (every (map read_entry m.1) ≡ Some v.1)
unfolding read_member
member_parts m v h =
    let (t, e, h₁) = bound (parse m.0) _ v h in
    let (bs, f, h₂) = bound (every (map read_entry m.1)) (λ cs. Some (t, cs)) v h₁ in
    let q = some_injective (t, bs) v h₂ in
    (e ∙ ap (λ (z : Variant). Some z.0) q, f ∙ ap (λ (z : Variant). Some z.1) q)

member_against : (m : Member) (v : Variant) → read_member m ≡ Some v → (bs : List Binding) (xs : List Text)
    → Against bs m xs (map (λ x. (lookup v.1 x, lookup bs x)) xs)
member_against m v h bs [] = nil
member_against m v h bs (x ∷ xs) =
    next (general_read m x ∙ entries_general m.1 v.1 (member_parts m v h).1 x) refl (member_against m v h bs xs)

-- One pair more

nodes_last : (qs : List Pair) (a b : Tree) → pattern_nodes (qs ++ ((a, b) ∷ [])) ≡ pattern_nodes qs + size a
unfolding pattern_nodes
nodes_last [] a b = omega arith
nodes_last (q ∷ qs) a b = let h = nodes_last qs a b in omega arith

weight_last : (qs : List Pair) (a b : Tree) → weight (qs ++ ((a, b) ∷ [])) ≡ weight qs + load a b
unfolding weight
weight_last [] a b = omega arith
weight_last (q ∷ qs) a b = let h = weight_last qs a b in omega arith

sides_last : (P Q : Tree → Type 0) (qs : List Pair) (a b : Tree) → Sides P Q qs → P a → Q b → Sides P Q (qs ++ ((a, b) ∷ []))
sides_last P Q [] a b h p q = (p, q, tt)
sides_last P Q (r ∷ qs) a b h p q = (h.0, h.1, sides_last P Q qs a b h.2 p q)

-- Sheets

module _ (s text : Text) (ms : List Member) (reads : read_sheet s ≡ Some (asks_complete text ms)) (term : Tree) (parsed : parse text ≡ Some term)
    (m : Member) (listed : Memᴰ m ms) where
  complete_colons : length (variables term []) + total (count_of 58) (entry_keys m.1) ≤ count_of 58 s
  unfolding sheet_keys sheet_texts
  complete_colons =
      let e = ap (λ (ns : List Text). length ns) (names_some text (member_texts ms) term parsed) in
      omega (
        arith,
        e,
        variables_length term [],
        length-append (variable_names term) (names_read (member_texts ms)),
        sheet_colons s (asks_complete text ms) reads,
        keys_within (count_of 58) ms m listed,
      )

  complete_bytes : length (variables term []) + (length m.0 + total length (entry_values m.1)) < length s
  unfolding sheet_texts total
  complete_bytes =
      omega (
        arith,
        variables_length term [],
        parse_colons text term parsed,
        colons_upto text,
        sheet_bytes s (asks_complete text ms) reads,
        texts_within length ms m listed,
      )

  -- by names that are variable tokens
  pub complete_room : (name : ℕ → Text) → ((n : ℕ) → variable_token (name n) ≡ true) → (v : Variant) → read_member m ≡ Some v
      → (n : ℕ) (r : Scheme) → Memᴰ r (schemes_from name term n)
      → (k : ℕ) (bs : List Binding) → (unify k (system term r)).0 ≡ solved bs
      → MatchRoom s (map (λ x. (lookup v.1 x, lookup bs x)) (variables term []) ++ ((v.0, instantiate bs r.value) ∷ []))
      (length (variables term [])) (length m.0 + total length (entry_values m.1)) (total (count_of 58) (entry_keys m.1)) 4095
  complete_room name fresh v h n r at k bs e =
      let t = builds text term parsed in
      let small = reads_within text term parsed in
      let xs = variables term [] in
      let qs : List Pair = map (λ x. (lookup v.1 x, lookup bs x)) xs in
      let (once, tokens) = variables_once term t in
      let limits = unify_limited k (system term r) bs (system_built name fresh term t small n r at) e xs tokens in
      let a = member_against m v h bs xs in
      let p = (member_parts m v h).0 in
      let value = instantiate bs r.value in
      let within = target_within name fresh term t small n r at k bs e in
      let g = cover_built bs m tokens limits a in
      record {
        nodes = omega (arith, nodes_last qs v.0 value, cover_nodes bs m once a, parse_size m.0 v.0 p);
        weighs = omega (arith, weight_last qs v.0 value, cover_weight bs m once tokens limits a, load_size v.0 value, parse_size m.0 v.0 p);
        colons = complete_colons;
        bytes = complete_bytes;
        built = pairs_append qs ((v.0, value) ∷ []) g.0 (builds m.0 v.0 p, target_built name fresh term t small n r at k bs e, tt);
        within = sides_last (Upto 4096) (Upto 4096) qs v.0 value g.1 (reads_within m.0 v.0 p) within;
      }
