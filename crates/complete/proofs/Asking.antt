-- The words of a sheet of kind `complete` are enough for each of its schemes.
use Prim.Native.Nat.{ℕ, ◌+◌, ◌*◌, ◌<◌, ◌≤◌}
use mathlib.Core.Path.{◌≡◌, refl, sym, ap, subst, ◌∙◌}
use mathlib.Core.Bool.{true}
use mathlib.Core.List.Memᴰ
use mathlib.Core.List.{List, [], ◌∷◌, map, reverse, reverse_aux, Memᴰ}
use Rattle.std.specs.Prelude.{Some}
use Rattle.laws.proofs.Basics.Somes.{some_injective}
use lib.ListN.{length}
use native.Mathlib.Omega.{arith}
use Rattle.rules.specs.Bytes.{Text}
use Rattle.rules.specs.Text.{count_of}
use Rattle.rules.specs.Maybe.{every}
use Rattle.rules.specs.Tree.{Tree, Trees, size, variable_names}
use Rattle.rules.specs.Substitution.{Binding, Pair, instantiate, size_pairs}
use Rattle.rules.specs.Solving.{solved, unify}
use Rattle.rules.specs.Sheet.{Sheet, Member, asks_complete, words_needed, entry_values}
use Rattle.rules.specs.Cover.{variables}
use Rattle.rules.specs.Names.{variable_token}
use Rattle.rules.specs.Variants.{Variant, read_member, schemes_from, scheme_count}
use Rattle.laws.specs.Schemes.{scheme_at}
use Rattle.laws.specs.Memory.{OverPairs, entry_keys, sheet_texts, sheet_keys, weight, sites}
use Rattle.laws.proofs.Basics.Options.{bound}
use Rattle.laws.proofs.Reading.Measures.{total}
use Rattle.laws.proofs.Reading.Colons.{parse_colons, parse_size, parse_brackets}
use Rattle.laws.proofs.Reading.Builds.{builds, reads_within}
use Rattle.laws.proofs.Sheets.NamesRead.{texts_colons, sheet_bytes, names_over, includes_self}
use Rattle.laws.proofs.Variants.Targets.{All}
use Rattle.laws.proofs.Variants.VariableNames.{variables_length}
use Rattle.laws.proofs.Variants.VariableOrder.{Token, variables_once}
use Rattle.laws.proofs.Variants.FreshNames.{scheme_names}
use Rattle.laws.proofs.Variants.Sites.{sites_nodes}
use Rattle.laws.proofs.Variants.SystemRoom.{SystemRoom, system_room, system_nodes, scheme_listed}
use Rattle.laws.proofs.Variants.CoverRoom.{keys_within, texts_within}
use Rattle.laws.proofs.Variants.CompleteRoom.{complete_room}
use Rattle.tree.specs.Cells.{tree_at}
use Rattle.forms.proofs.WordLaws.{count_bound}
use Rattle.elimination.specs.Stack.{FitPairs}
use Rattle.elimination.specs.declared.room.TheConstants.{NAME_CELLS}
use Rattle.elimination.specs.Area.{Room}
use Rattle.unifier.specs.Matched.{Matched}
use Rattle.steps.proofs.Fitting.{fit_sides}
use Rattle.families.specs.Families.{Family, nil, next}
use Rattle.families.specs.Generalizing.{member_pairs, AllMatched}
use Rattle.complete.specs.Judging.{fuel_for, system_of, solved_end, Judgeable}
use Rattle.complete.specs.Completing.{CompleteInput}
use Rattle.families.proofs.Alike.{stands_alike}
use Rattle.complete.proofs.Rooms.{fuel_few, match_words, match_room}

-- ---- members that are read

read_from : (ms : List Member) (us : List Variant) → every (map read_member ms) ≡ Some us → (v : Variant) → Memᴰ v us → (m : Member) × Memᴰ m ms × (read_member m ≡ Some v)
unfolding every
read_from [] us e v l = absurd (Memᴰ.not-nil (subst (Memᴰ v) (sym (some_injective [] us e)) l))
read_from (m ∷ ms) us e v l =
    let (u, f, e₁) = bound (read_member m) _ us e in
    let (rest, g, e₂) = bound (every (map read_member ms)) (λ r. Some (u ∷ r)) us e₁ in
    go u rest f g (subst (Memᴰ v) (sym (some_injective (u ∷ rest) us e₂)) l) (read_from ms rest g v)
  where
    go : (u : Variant) (rest : List Variant) → read_member m ≡ Some u → every (map read_member ms) ≡ Some rest → Memᴰ v (u ∷ rest)
        → (Memᴰ v rest → (m : Member) × Memᴰ m ms × (read_member m ≡ Some v)) → (n : Member) × Memᴰ n (m ∷ ms) × (read_member n ≡ Some v)
    go u rest f g (Memᴰ.head h) later = (m, Memᴰ.head refl, f ∙ ap Some (sym h))
    go u rest f g (Memᴰ.tail h) later = let (n, k, i) = later h in (n, Memᴰ.tail k, i)

turned_listed : (v : Variant) (vs us : List Variant) → Memᴰ v us → Memᴰ v (reverse_aux vs us)
turned_listed v [] us l = l
turned_listed v (u ∷ vs) us l = turned_listed v vs (u ∷ us) (Memᴰ.tail l)

reverse_listed : (v : Variant) (vs us : List Variant) → Memᴰ v vs → Memᴰ v (reverse_aux vs us)
reverse_listed v [] us x' = elim x' [ ]
reverse_listed v (u ∷ vs) us (Memᴰ.head e) = turned_listed v vs (u ∷ us) (Memᴰ.head e)
reverse_listed v (u ∷ vs) us (Memᴰ.tail l) = reverse_listed v vs (u ∷ us) l

-- ---- a sheet of kind `complete`

module _ {s : Text} {w : List ℕ} {free term named at : ℕ} (k : CompleteInput s w free term named at) where
  abbrev tree : Tree
  tree = tree_at s w term

  abbrev sheet : Sheet
  sheet = asks_complete k.text k.members

  pub asked_small : size tree ≤ 4096
  asked_small = reads_within k.text tree k.parsed

  pub asked_names : length (variables tree []) ≤ count_of 58 k.text
  asked_names = omega (arith, variables_length tree [], parse_colons k.text tree k.parsed)

  pub asked_tokens : All Token (variables tree [])
  asked_tokens = (variables_once tree (builds k.text tree k.parsed)).1

  text_colons : (m : Member) → Memᴰ m k.members → count_of 58 k.text + total (count_of 58) (entry_keys m.1) ≤ count_of 58 s
  unfolding sheet_texts sheet_keys total
  text_colons m l = omega (arith, texts_colons s sheet k.reads, keys_within (count_of 58) k.members m l)

  text_bytes : (m : Member) → Memᴰ m k.members → size tree + (length m.0 + total length (entry_values m.1)) < length s
  unfolding sheet_texts total
  text_bytes m l = omega (arith, parse_size k.text tree k.parsed, sheet_bytes s sheet k.reads, texts_within length k.members m l)

  colons_few : count_of 58 s ≤ 65536
  colons_few = count_bound 58 s k.short refl

  pub asked_colons : count_of 58 k.text ≤ count_of 58 s
  unfolding sheet_texts sheet_keys total
  asked_colons = omega (arith, texts_colons s sheet k.reads)

  pub asked_bytes : size tree < length s
  unfolding sheet_texts total
  asked_bytes = omega (arith, parse_size k.text tree k.parsed, sheet_bytes s sheet k.reads)

  brackets_few : count_of 40 k.text ≤ 65536
  unfolding sheet_texts total
  brackets_few = omega (arith, count_bound 40 k.text (omega (arith, k.short, sheet_bytes s sheet k.reads)) refl)

  sites_most : sites tree ≤ count_of 40 k.text
  sites_most = omega (arith, sites_nodes tree, parse_brackets k.text tree k.parsed)

  module _ (name : ℕ → Text) (tokens : (n : ℕ) → variable_token (name n) ≡ true) (v : List ℕ) (stop : ℕ) (z : length v ≡ length w)
      (ends : stop ≤ 26 + length (variables tree []) + 2 * length s) (i : ℕ) (l : i < scheme_count tree) where
    scheme_is : Memᴰ (scheme_at name tree 0 i) (schemes_from name tree 0)
    scheme_is = scheme_listed name tree 0 i l

    systems : SystemRoom tree 0 (scheme_at name tree 0 i)
    systems = system_room name tokens tree (builds k.text tree k.parsed) asked_small 0 (scheme_at name tree 0 i) scheme_is

    nodes_most : size_pairs (system_of name tree i) ≤ 4 * size tree + 4100 * sites tree
    nodes_most = system_nodes name tree asked_small 0 (scheme_at name tree 0 i) scheme_is

    abbrev nodes : ℕ
    nodes = size_pairs (system_of name tree i)

    abbrev top : ℕ
    top = solved_end name stop tree named i

    top_is : top ≤ 26 + length (variables tree []) + 2 * length s + 2 * size tree + 1024 + nodes + 2 * fuel_for nodes named + NAME_CELLS * (count_of 58 k.text + 2 * count_of 40 k.text)
    top_is = omega (arith, ends, k.named_is)

    fuel_is : fuel_for nodes named ≤ nodes + 4096 * (count_of 58 k.text + 2 * count_of 40 k.text) + 1
    fuel_is = omega (arith, (fuel_few nodes named).1, k.named_is)

    -- the room after the run, with a match that weighs so much
    words_left : (t keys weigh : ℕ) → count_of 58 k.text + keys ≤ count_of 58 s → size tree + t < length s → weigh ≤ t + 4095 * keys + 4095
        → Room v (top + 4098 + 2 * length (variables tree []) + weigh + 2 * length s)
    unfolding words_needed
    words_left t keys weigh c b h =
        match_room (length s) (count_of 58 s) (count_of 40 k.text) (top + 4098 + 2 * length (variables tree []) + weigh + 2 * length s) (length v)
        (match_words (length s) (count_of 58 s) t keys weigh (size tree) (length (variables tree [])) (count_of 58 k.text) (count_of 40 k.text) (sites tree) nodes (fuel_for nodes named) top
        k.short c b h asked_small asked_names sites_most nodes_most (fuel_few nodes named).0 fuel_is top_is)
        colons_few brackets_few k.short (omega (arith, k.words, z))

    asked_fit : FitPairs (system_of name tree i)
    asked_fit = fit_sides (system_of name tree i) systems.built systems.within

    asked_over : (ms : List Text) × (length ms ≤ named) × OverPairs ms (system_of name tree i)
    asked_over =
        let (ms, f, h) = scheme_names name k.text tree k.parsed (variable_names tree) (names_over (variable_names tree) tree (includes_self (variable_names tree))) 0 in
        (ms, omega (arith, f, parse_colons k.text tree k.parsed, k.named_is), (h (scheme_at name tree 0 i) scheme_is).0)

    module _ (bs : List Binding) (e : (unify 65536 (system_of name tree i)).0 ≡ solved bs) where
      abbrev value : Tree
      value = instantiate bs (scheme_at name tree 0 i).value

      -- a member that is read can be matched
      asked_member : (m : Member) → Memᴰ m k.members → (u : Variant) → read_member m ≡ Some u
          → Matched s v (top + 4098 + 2 * length (variables tree [])) (member_pairs (variables tree []) u bs value)
      unfolding member_pairs
      asked_member m h u f =
          let r = complete_room s k.text k.members k.reads tree k.parsed m h name tokens u f 0 (scheme_at name tree 0 i) scheme_is 65536 bs e in
          record {
            fit = fit_sides (member_pairs (variables tree []) u bs value) r.built r.within;
            few = omega (arith, r.nodes, r.bytes);
            room = words_left (length m.0 + total length (entry_values m.1)) (total (count_of 58) (entry_keys m.1)) (weight (member_pairs (variables tree []) u bs value)) (text_colons m h) (text_bytes m h)
                r.weighs;
          }

      asked_members : {ts : Trees} {vs : List Variant} → Family ts vs → ((u : Variant) → Memᴰ u vs → (m : Member) × Memᴰ m k.members × (read_member m ≡ Some u))
          → AllMatched s v (top + 4098 + 2 * length (variables tree [])) (variables tree []) bs value ts
      asked_members nil h = tt
      asked_members (next {v = u} st f) h =
          let (m, g, r) = h u (Memᴰ.head refl) in (
            record { own = u.0; entries = st.bindings; is = st.is },
            subst (λ (qs : List Pair). Matched s v (top + 4098 + 2 * length (variables tree [])) qs) (sym (stands_alike (variables tree []) asked_tokens bs value st)) (asked_member m g u r),
            asked_members f (λ x y. h x (Memᴰ.tail y)),
          )

    -- each scheme can be judged
    pub asked_judgeable : {ts : Trees} {vs : List Variant} → Family ts vs → every (map read_member k.members) ≡ Some (reverse vs) → Judgeable name s v stop named (variables tree []) ts tree i
    asked_judgeable {ts} {vs} f r =
        let (ms, few, over) = asked_over in
        let left = words_left 0 0 0 (omega (arith, asked_colons)) (omega (arith, asked_bytes)) (omega arith) in
        record {
          names = ms;
          over = over;
          few = few;
          fit = asked_fit;
          room = (omega (arith, left.0), omega (arith, left.1));
          matched = λ bs e. asked_members bs e f (λ u l. read_from k.members (reverse vs) r u (reverse_listed u vs [] l));
        }
