-- The term's variables, the fresh ones and the members in an area, and what judging the schemes over them says.
use Prim.Native.Nat.{ℕ, ◌+◌, ◌*◌, ◌<◌, ◌≤◌}
use mathlib.Core.Path.{◌≡◌, refl, sym, ap, subst, ◌∙◌}
use mathlib.Core.Bool.{Bool, true}
use mathlib.Core.List.{[], reverse}
use Rattle.std.specs.Prelude.{Option, Some, None}
use Rattle.laws.proofs.Basics.Somes.{some_injective}
use lib.ListN.{length}
use native.Mathlib.Omega.{arith}
use Rattle.rules.specs.Bytes.{Text}
use Rattle.rules.specs.Names.{variable_token}
use Rattle.rules.specs.Tree.{Tree, size, variable}
use Rattle.rules.specs.Sheet.{asks_complete, words_needed}
use Rattle.rules.specs.Cover.{variables}
use Rattle.rules.specs.Variants.{fresh_base, fresh_from, scheme_count, complete}
use Rattle.laws.specs.Schemes.{pending, judged_from}
use Rattle.laws.specs.Memory.{sheet_texts}
use Rattle.laws.proofs.Reading.Builds.{builds}
use Rattle.laws.proofs.Sheets.SheetParts.{sheet_parts}
use Rattle.laws.proofs.Variants.OnePass.{complete_unread, complete_unindexed, complete_over}
use Rattle.laws.proofs.Renaming.AnyNames.{chosen_tokens, complete_chosen}
use Rattle.tree.specs.declared.area.Area.{Area}
use Rattle.tree.specs.Areas.{tree_in, trees_in, Grows, HasRoom}
use Rattle.tree.proofs.Keeping.{adds_grows, grows_then, grows_length, grows_tree, grows_trees}
use Rattle.forms.specs.Members.{members_at}
use Rattle.forms.proofs.WordLaws.{count_bound}
use Rattle.variants.specs.Members.{TextsRoom}
use Rattle.schemes.specs.Areas.{counted_in, FreshIn}
use Rattle.variables.specs.Variables.{Readable}
use Rattle.variables.specs.Areas.{names_in}
use Rattle.variables.proofs.Listed.{variables_grown}
use Rattle.variables.proofs.Shortness.{short_read}
use Rattle.families.specs.Families.{ReadAll}
use Rattle.families.specs.Areas.{variants_in, ReadMembersIn, ReadsMembersIn}
use Rattle.families.proofs.Alike.{family_judges}
use Rattle.fresh.specs.Searching.{spells}
use Rattle.fresh.specs.Fresh.{chosen_in}
use Rattle.fresh.specs.Areas.{TermNamesIn, WritesFreshIn}
use Rattle.fresh.specs.declared.naming.Named.{Named}
use Rattle.fresh.proofs.Finding.{part_is_spelled}
use Rattle.schemes.proofs.Numbering.{past, within}
use Rattle.complete.specs.Judging.{Judgeable}
use Rattle.complete.specs.Areas.{Asks, CanJudgeAllIn, JudgesAllIn, CompleteInputIn, ClaimsCompleteIn}
use Rattle.complete.specs.declared.judging.Question.{Question}
use Rattle.complete.proofs.Asking.{asked_small, asked_names, asked_tokens, asked_bytes, asked_colons, asked_judgeable}

module _ (a : Area) {term named at : ℕ} (k : CompleteInputIn a term named at) where
  abbrev tree : Tree
  tree = tree_in a term

  pub term_spelled : Readable tree
  unfolding sheet_texts
  term_spelled = record { built = builds k.text tree k.parsed; short = short_read a.sheet.now k.text tree k.short (sheet_parts a.sheet.now (asks_complete k.text k.members) k.reads).0 k.parsed }

  pub term_fits : (size tree ≤ length a.sheet.now) × (length a.sheet.now ≤ 65536)
  term_fits = (omega (arith, asked_bytes k), k.short)

  claims : {z : Area} (r : Option Bool) → r ≡ complete tree k.members → Grows a z → ClaimsCompleteIn a z term at r
  claims r e g = record { grows = g; claim = λ ms f. e ∙ ap (complete tree) (some_injective k.members ms (sym k.later ∙ f)) }

  -- a variable has no index
  pub claims_unindexed : {b : Area} → (fresh_base tree 0 ≡ None) × Grows a b → ClaimsCompleteIn a b term at None
  claims_unindexed x = claims None (sym (complete_unindexed tree k.members x.0)) x.1

  module _ (tp : 0 < term) (tb : term < a.free) {b : Area} {t : Named} (n : TermNamesIn a b term t) where
    term_now : tree_in b term ≡ tree
    term_now = grows_tree n.grows term tb tp

    top_few : b.free ≤ 2 + 2 * at + length (variables tree [])
    top_few = omega (arith, n.used, k.used)

    -- there are too many schemes
    pub over_claims : None ≡ counted_in (scheme_count (tree_in b term)) → ClaimsCompleteIn a b term at None
    over_claims e = claims None (sym (complete_over tree k.members (omega (arith, past (scheme_count (tree_in b term)) e, ap scheme_count term_now)))) n.grows

    pub count_now : (c : ℕ) → Some c ≡ counted_in (scheme_count (tree_in b term)) → (c ≡ scheme_count tree) × (c ≤ 4096)
    count_now c e = let r = within (scheme_count (tree_in b term)) c e in (r.0 ∙ ap scheme_count term_now, omega (arith, r.0, r.1))

    pub fresh_room : HasRoom b 24
    unfolding words_needed
    fresh_room =
        let x = asked_names k in
        let c = asked_colons k in
        (omega (arith, top_few, k.words, k.inside, grows_length n.grows), omega (arith, top_few, k.inside, k.short, count_bound 58 a.sheet.now k.short refl))

    module _ {d : Area} {fresh : ℕ} (f : WritesFreshIn b d t.base fresh) where
      to_fresh : Grows a d
      to_fresh = grows_then n.grows (adds_grows f.adds)

      same_length : length d.sheet.now ≡ length a.sheet.now
      same_length = ap (λ s. length s.now) to_fresh.lent.sheet

      pub members_room : TextsRoom d.sheet.now d.work.now d.free at
      unfolding words_needed
      members_room =
          let x = asked_names k in
          let c = asked_colons k in
          let s = same_length in
          (omega (arith, s, k.short), omega (arith, s, top_few, f.end, k.words, k.inside, grows_length to_fresh), omega (arith, s, f.end, top_few, k.inside, k.short, count_bound 58 a.sheet.now k.short refl))

      later_in : members_at d.sheet.now at ≡ Some k.members
      later_in = ap (λ s. members_at s.now at) to_fresh.lent.sheet ∙ k.later

      -- a member's text is unreadable
      pub unread_claims : {e : Area} → ReadsMembersIn d e at None → ClaimsCompleteIn a e term at None
      unread_claims r = claims None (sym (complete_unread tree k.members (r.0 k.members later_in))) (grows_then to_fresh r.1)

      module _ {e : Area} {list : ℕ} (m : ReadMembersIn d e at list) (count : ℕ) (c : (count ≡ scheme_count tree) × (count ≤ 4096)) where
        abbrev asked : Question
        asked = record { schemes = record { term = term; fresh = fresh; count = count }; named = named; names = t.names; members = list }

        to_members : Grows a e
        to_members = grows_then to_fresh m.grows

        from_names : Grows b e
        from_names = grows_then (adds_grows f.adds) m.grows

        term_kept : tree_in e term ≡ tree
        term_kept = grows_tree to_members term tb tp

        list_kept : trees_in e t.names ≡ trees_in b t.names
        list_kept = grows_trees from_names t.names n.names.inside

        names_are : names_in e t.names ≡ variables tree []
        names_are = rw list_kept n.are

        pub question_asks : Asks e asked
        question_asks = record {
          short = omega (arith, ap (λ s. length s.now) to_members.lent.sheet, k.short);
          term = (tp, omega (arith, tb, to_members.grew));
          names = variables_grown from_names n.names;
          members = m.inside;
          small = omega (arith, asked_small k, ap size term_kept);
          count = c.0 ∙ sym (ap scheme_count term_kept);
          few = c.1;
        }

        abbrev name : ℕ → Text
        name = chosen_in a.sheet.now t.base

        tokens : (i : ℕ) → variable_token (name i) ≡ true
        tokens = chosen_tokens t.base (λ i. spells a.sheet.now (fresh_from t.base i))

        cells : FreshIn e fresh name
        cells = record {
          some_cell = omega (arith, f.first, n.used);
          inside = omega (arith, f.first, f.end, m.grows.grew);
          trees = λ i l. grows_tree m.grows (fresh + i) (omega (arith, f.first, f.end)) (omega (arith, f.first, n.used)) ∙ f.trees i l ∙ ap (λ s. variable (chosen_in s.now t.base i)) n.grows.lent.sheet;
        }

        members_read : ReadAll e.sheet.now e.work.now list k.members
        members_read = m.reads k.members later_in

        stop_few : e.free ≤ 26 + length (variables tree []) + 2 * length a.sheet.now
        stop_few = omega (arith, m.used, same_length, f.end, top_few, k.inside)

        pub question_can : CanJudgeAllIn e asked
        question_can = record {
          name = name;
          cells = cells;
          schemes = λ i l. (
              let j = asked_judgeable k name tokens e.work.now e.free (grows_length to_members) stop_few i (omega (arith, l, c.0)) members_read.family members_read.read in
              let s = subst (λ s. Judgeable name s.now e.work.now e.free named (variables tree []) (trees_in e list) tree i) (sym to_members.lent.sheet) j in
              rw (names_are, term_kept) s
              );
        }

        -- the answer
        pub question_claims : {z : Area} (r : Option Bool) → JudgesAllIn e z asked r → ClaimsCompleteIn a z term at r
        question_claims r j =
            let g : r ≡ judged_from name tree (variables tree []) (variants_in e list) 0 pending = j.answers name cells ∙ rw (names_are, term_kept) refl in
            let by = complete_chosen a.sheet.now k.short k.text k.members k.reads t.base (λ i. spells a.sheet.now (fresh_from t.base i)) (λ i q. part_is_spelled a.sheet.now (fresh_from t.base i) q) tree (reverse members_read.vs) k.parsed members_read.read n.based
            (omega (arith, c.0, c.1))
            in
            claims r (g ∙ family_judges name tree (variables tree []) (asked_tokens k) members_read.vs members_read.family 0 pending ∙ sym by) (grows_then to_members j.grows)
