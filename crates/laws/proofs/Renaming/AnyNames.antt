-- The schemes by the chosen names are judged as those by the fresh names from the base on, where no member has a name that no sheet
-- spells, or a fresh one that is not spelled, over arguments. So it is with the members of a sheet.
use Prim.Native.Nat.{ℕ, suc, max, ◌≤◌, ◌<◌}
use native.Mathlib.Omega.{arith}
use mathlib.Core.Path.{◌≡◌, sym, ◌∙◌, ap, subst}
use mathlib.Core.Bool.{Bool, true, false, cond}
use mathlib.Core.List.{List, [], ◌∷◌, map}
use Rattle.std.specs.Prelude.{Some}
use Rattle.laws.proofs.Basics.Somes.{some_injective}
use lib.ListN.{length}
use Rattle.rules.specs.Bytes.{Text}
use Rattle.rules.specs.Names.{variable_token}
use Rattle.rules.specs.Maybe.{◌>>=◌, every}
use Rattle.rules.specs.Tree.{Tree, variable, atom, apply, Trees, none, more, variable_names, variable_names_in}
use Rattle.rules.specs.Reading.{parse}
use Rattle.rules.specs.Sheet.{Member, asks_complete, read_sheet, member_texts}
use Rattle.rules.specs.Cover.{variables}
use Rattle.rules.specs.Variants.{Variant, read_member, index_of, fresh_base, fresh_base_in, fresh_from, Scheme, schemes_from, scheme_count, solved_schemes, all_generalized, complete}
use Rattle.laws.specs.Schemes.{pending, judged_from}
use Rattle.laws.specs.Memory.{sheet_texts}
use Rattle.rules.specs.Substitution.{Binding}
use Rattle.rules.specs.Tidy.{Built}
use Rattle.laws.specs.Parts.{PartOf}
use Rattle.laws.specs.Unspelled.{unspelled, chosen}
use Rattle.laws.proofs.Basics.Options.{bound}
use Rattle.laws.proofs.Reading.Builds.{builds}
use Rattle.laws.proofs.Reading.Spelled.{NamedIn, AllHeads, named_map, part_spelled}
use Rattle.laws.proofs.Sheets.SheetParts.{sheet_parts, TreesOf, members_all}
use Rattle.laws.proofs.Variants.Targets.{All, all_append, Good, schemes_good, fresh_tokens}
use Rattle.laws.proofs.Variants.OnePass.{one_pass, complete_judged}
use Rattle.laws.proofs.Renaming.Renamed.{rename_scheme}
use Rattle.laws.proofs.Renaming.Matching.{FixesNames, FixNames, Pattern}
use Rattle.laws.proofs.Renaming.Completing.{Fixed, rename_fixed, BuiltScheme, PatternVariant, judged_alike}
use Rattle.laws.proofs.Renaming.Unspelled.{unspelled_token, Spellable, part_short}
use Rattle.laws.proofs.Renaming.Naming.{schemes_renamed}
use Rattle.laws.proofs.Renaming.Exchange.{exchange, exchange_chosen, exchanging, spelled_stays, below_stays}

module _ {A : Type 0} (P Q : A → Type 0) (f : (a : A) → P a → Q a) where
  all_weaken : (l : List A) → All P l → All Q l
  all_weaken [] h = tt
  all_weaken (a ∷ l) h = (f a h.0, all_weaken l h.1)

module _ (P Q : Tree → Type 0) (f : (t : Tree) → P t → Q t) where
  trees_weaken : (v : Variant) → TreesOf P v → TreesOf Q v
  trees_weaken v h = (f v.0 h.0, all_weaken (λ (b : Binding). P b.1) (λ b. Q b.1) (λ b. f b.1) v.1 h.1)

-- The base is above every index of the term

abbrev pub Below : ℕ → Text → Type 0
Below base x = (i : ℕ) × (index_of x ≡ Some i) × (i < base)

raise_below : (b c : ℕ) → b ≤ c → (x : Text) → Below b x → Below c x
raise_below b c h x (i, e, l) = (i, e, omega arith)

mutual
  unfolding fresh_base variable_names

  pub indices_below : (t : Tree) (b c : ℕ) → fresh_base t b ≡ Some c → (b ≤ c) × All (Below c) (variable_names t)
  indices_below (variable x) b c h =
      let (i, e, k) = bound (index_of x) (λ j. Some (max b (suc j))) c h in
      let m = some_injective (max b (suc i)) c k in
      (omega arith, ((i, e, omega arith), tt))
  indices_below (atom k d) b c h = let m = some_injective b c h in (omega arith, tt)
  indices_below (apply f ts) b c h = indices_in_below ts b c h

  indices_in_below : (ts : Trees) (b c : ℕ) → fresh_base_in ts b ≡ Some c → (b ≤ c) × All (Below c) (variable_names_in ts)
  indices_in_below none b c h = let m = some_injective b c h in (omega arith, tt)
  indices_in_below (more t ts) b c h =
      let (d, e, k) = bound (fresh_base t b) (λ a. fresh_base_in ts a) c h in
      let (l, p) = indices_below t b d e in
      let (m, q) = indices_in_below ts d c k in
      (omega arith, all_append (Below c) (variable_names t) (variable_names_in ts) (all_weaken (Below d) (Below c) (raise_below d c m) (variable_names t) p) q)

module _ (base : ℕ) (spelled : ℕ → Bool) where
  pub chosen_tokens : (n : ℕ) → variable_token (chosen base spelled n) ≡ true
  unfolding chosen
  chosen_tokens n = go (spelled n)
    where
      go : (b : Bool) → variable_token (cond b (fresh_from base n) (unspelled n)) ≡ true
      go true = fresh_tokens base n
      go false = unspelled_token n

  -- the name is none that no sheet spells, and a fresh one only where that is spelled
  abbrev pub Stays : Text → Type 0
  Stays x = Spellable x × ((n : ℕ) → x ≡ fresh_from base n → spelled n ≡ true)

  mutual
    heads_fixed : (t : Tree) → AllHeads Stays t → FixesNames (exchange base spelled) t
    heads_fixed (variable x) h = tt
    heads_fixed (atom c d) h = tt
    heads_fixed (apply f ts) h = (λ e. spelled_stays base spelled f h.0.0 h.0.1, heads_in_fixed ts h.1)

    heads_in_fixed : (ts : Trees) → NamedIn (λ x. Unit {0}) Stays ts → FixNames (exchange base spelled) ts
    heads_in_fixed none h = tt
    heads_in_fixed (more t ts) h = (heads_fixed t h.0, heads_in_fixed ts h.1)

  -- a tree as reading builds it with such names
  abbrev pub MemberTree : Tree → Type 0
  MemberTree t = Built t × AllHeads Stays t

  module _ (term : Tree) (built : Built term) (based : fresh_base term 0 ≡ Some base) where
    fixed : All (Fixed (exchange base spelled)) (variable_names term)
    fixed =
        all_weaken (Below base) (Fixed (exchange base spelled)) (λ x (i, e, l). below_stays base spelled x i e l) (variable_names term)
        (indices_below term 0 base based).1

    renamed : map (rename_scheme (exchange base spelled)) (schemes_from (chosen base spelled) term 0) ≡ schemes_from (fresh_from base) term 0
    renamed =
        schemes_renamed (exchange base spelled) (chosen base spelled) (fresh_from base) (exchange_chosen base spelled) term 0
        ∙ ap (λ (t : Tree). schemes_from (fresh_from base) t 0) (rename_fixed (exchange base spelled) term fixed)

    pub any_names : (ms : List Variant) → All (TreesOf MemberTree) ms
        → judged_from (chosen base spelled) term (variables term []) ms 0 pending ≡ judged_from (fresh_from base) term (variables term []) ms 0 pending
    unfolding judged_from
    any_names ms h =
        sym (one_pass (variables term []) ms term (schemes_from (chosen base spelled) term 0))
        ∙ sym (judged_alike (exchanging base spelled) term built fixed ms patterns (schemes_from (chosen base spelled) term 0) schemes_built)
        ∙ ap (λ (ss : List Scheme). solved_schemes term ss >>= all_generalized (variables term []) ms) renamed
        ∙ one_pass (variables term []) ms term (schemes_from (fresh_from base) term 0)
      where
        patterns : All (PatternVariant (exchange base spelled)) ms
        patterns =
            all_weaken (TreesOf MemberTree) (PatternVariant (exchange base spelled))
            (trees_weaken MemberTree (Pattern (exchange base spelled)) (λ t k. (k.0, heads_fixed t k.1))) ms h

        schemes_built : All BuiltScheme (schemes_from (chosen base spelled) term 0)
        schemes_built =
            all_weaken (Good term) BuiltScheme (λ s g. (g.1, g.2)) (schemes_from (chosen base spelled) term 0)
            (schemes_good (chosen base spelled) chosen_tokens term 0 built)

-- The members of a sheet

module _ (s : Text) (short : length s ≤ 65536) (text : Text) (members : List Member) (read : read_sheet s ≡ Some (asks_complete text members)) (base : ℕ)
    (spelled : ℕ → Bool) (spells : (n : ℕ) → PartOf s (fresh_from base n) → spelled n ≡ true) where
  part_stays : (x : Text) → PartOf s x → Stays base spelled x
  part_stays x p = (part_short s short x p, λ n e. spells n (subst (PartOf s) e p))

  part_member : (x : Text) (t : Tree) → PartOf s x → parse x ≡ Some t → MemberTree base spelled t
  part_member x t p e =
      (builds x t e, named_map (PartOf s) (λ y. Unit {0}) (PartOf s) (Stays base spelled) (λ y k. tt) part_stays t (part_spelled s x t p e))

  parts : All (PartOf s) (member_texts members)
  unfolding sheet_texts
  parts = (sheet_parts s (asks_complete text members) read).1

  -- where each fresh name that the sheet spells is chosen, the chosen names serve for the fresh ones
  pub judged_chosen : (term : Tree) (ms : List Variant) → parse text ≡ Some term → every (map read_member members) ≡ Some ms → fresh_base term 0 ≡ Some base
      → judged_from (chosen base spelled) term (variables term []) ms 0 pending ≡ judged_from (fresh_from base) term (variables term []) ms 0 pending
  judged_chosen term ms e f g = any_names base spelled term (builds text term e) g ms (members_all (PartOf s) (MemberTree base spelled) part_member members ms f parts)

  pub complete_chosen : (term : Tree) (ms : List Variant) → parse text ≡ Some term → every (map read_member members) ≡ Some ms → fresh_base term 0 ≡ Some base
      → scheme_count term ≤ 4096 → complete term members ≡ judged_from (chosen base spelled) term (variables term []) ms 0 pending
  complete_chosen term ms e f g h = complete_judged term members ms base f g h ∙ sym (judged_chosen term ms e f g)
