-- A property of every name of a term: flattening keeps it, and the words of the term have it where the marks do. So the words of a
-- flattened term, once its sums are sorted, have the canonical text of the tree that it spells.
use Prim.Native.Nat.{ℕ, ◌<◌}
use mathlib.Core.Path.{◌≡◌, ◌∙◌}
use mathlib.Core.Bool.{Bool, true, false}
use mathlib.Core.List.{List, [], ◌∷◌}
use lib.ListN.{length}
use native.Mathlib.Omega.{arith}
use Rattle.rules.specs.Bytes.{Text}
use Rattle.rules.specs.Tree.{Tree, Trees}
use Rattle.rules.specs.Sums.{canonical}
use Rattle.runs.specs.Texts.{texts, Token}
use Rattle.runs.specs.declared.TheConstants.{OPEN, SHUT, COMMA, PLUS}
use Rattle.settling.specs.Orders.{sums_ordered}
use Rattle.flattening.specs.Terms.{Term, node, Terms, none, more, inner, headed, words, words_each}
use Rattle.flattening.specs.Items.{adds}
use Rattle.settling.proofs.Canonicals.{PlainTerm, PlainTerms}
use Rattle.settling.proofs.Canonicals as canonicals
use Rattle.settling.proofs.CanonTexts.{ordered_text}
use Rattle.runs.proofs.Each.{Each, each_append, code_token}
use Rattle.runs.proofs.Each as words_of
use Rattle.flattening.specs.Spelling.{NoMark, flat_by, splice_by, flatten, flattens, splice, splices, Word, Spells, as_variable, as_atom, as_apply, SpellsAll, spell_none, spell_more}
use Rattle.flattening.proofs.Flattening.{flatten_text}

module _ (P : ℕ → Type 0) where
  mutual
    pub data Names : Term → Type 0 where
      name : {x : ℕ} {ts : Terms} → P x → NamesAll ts → Names (node x ts)

    pub data NamesAll : Terms → Type 0 where
      nil : NamesAll none
      both : {t : Term} {ts : Terms} → Names t → NamesAll ts → NamesAll (more t ts)

  -- ---- flattening

  flat_names : (b : Bool) (x : ℕ) (ts us : Terms) → P PLUS → P x → NamesAll ts → NamesAll us → Names (flat_by b x ts us)
  flat_names b x none us c h p q = name h nil
  flat_names true x (more t ts) us c h p q = name c q
  flat_names false x (more t ts) us c h p q = name h p

  splice_names : (b : Bool) (x : ℕ) (ts us rest : Terms) → P x → NamesAll ts → NamesAll us → NamesAll rest → NamesAll (splice_by b x ts us rest)
  splice_names b x none us rest h p q r = both (name h nil) r
  splice_names true x (more t ts) us rest h p q r = q
  splice_names false x (more t ts) us rest h p q r = both (name h p) r

  module _ (s : Text) (c : P PLUS) (of : (x : ℕ) → Word s x → P x) where
    mutual
      unfolding flatten

      pub flatten_names : {t : Term} {u : Tree} → Spells s t u → Names (flatten s t)
      flatten_names (as_variable {x = x} h e) = name (of x h) nil
      flatten_names (as_atom {x = x} {y = y} h k e f) =
          flat_names (adds s x) x (more (node y none) none) (more (node y none) none) c (of x h) (both (name (of y k) nil) nil) (both (name (of y k) nil) nil)
      flatten_names (as_apply {x = x} {ts = ts} h e hs) = flat_names (adds s x) x (flattens s ts) (splices s ts none) c (of x h) (flattens_names hs) (spliced_all hs none nil)

      flattens_names : {ts : Terms} {us : Trees} → SpellsAll s ts us → NamesAll (flattens s ts)
      flattens_names spell_none = nil
      flattens_names (spell_more h hs) = both (flatten_names h) (flattens_names hs)

      spliced : {t : Term} {u : Tree} → Spells s t u → (rest : Terms) → NamesAll rest → NamesAll (splice s t rest)
      spliced (as_variable {x = x} h e) rest r = both (name (of x h) nil) r
      spliced (as_atom {x = x} {y = y} h k e f) rest r =
          splice_names (adds s x) x (more (node y none) none) (more (node y none) rest) rest (of x h) (both (name (of y k) nil) nil) (both (name (of y k) nil) r) r
      spliced (as_apply {x = x} {ts = ts} h e hs) rest r = splice_names (adds s x) x (flattens s ts) (splices s ts rest) rest (of x h) (flattens_names hs) (spliced_all hs rest r) r

      spliced_all : {ts : Terms} {us : Trees} → SpellsAll s ts us → (rest : Terms) → NamesAll rest → NamesAll (splices s ts rest)
      spliced_all spell_none rest r = r
      spliced_all (spell_more {ts = ts} h hs) rest r = spliced h (splices s ts rest) (spliced_all hs rest r)

  -- ---- the words of a term

  data EachOf : List (List ℕ) → Type 0 where
    no_list : EachOf []
    one_more : {l : List ℕ} {ls : List (List ℕ)} → Each P l → EachOf ls → EachOf (l ∷ ls)

  module _ (o : P OPEN) (c : P SHUT) (k : P COMMA) where
    inner_each : {ls : List (List ℕ)} → EachOf ls → Each P (inner ls)
    unfolding inner
    inner_each no_list = words_of.none
    inner_each (one_more h no_list) = h
    inner_each (one_more h (one_more g gs)) = each_append P h (words_of.more k (inner_each (one_more g gs)))

    headed_each : {x : ℕ} {ls : List (List ℕ)} → P x → EachOf ls → Each P (headed x ls)
    unfolding headed
    headed_each p no_list = words_of.more p words_of.none
    headed_each p (one_more h hs) = words_of.more p (words_of.more o (each_append P (inner_each (one_more h hs)) (words_of.more c words_of.none)))

    mutual
      unfolding words

      pub words_have : {t : Term} → Names t → Each P (words t)
      words_have (name p hs) = headed_each p (words_have_each hs)

      words_have_each : {ts : Terms} → NamesAll ts → EachOf (words_each ts)
      words_have_each nil = no_list
      words_have_each (both h hs) = one_more (words_have h) (words_have_each hs)

mutual
  plain_term : {t : Term} → Names NoMark t → PlainTerm t
  plain_term (name p hs) = canonicals.plain p (plain_terms hs)

  plain_terms : {ts : Terms} → NamesAll NoMark ts → PlainTerms ts
  plain_terms nil = canonicals.nil
  plain_terms (both h hs) = canonicals.both (plain_term h) (plain_terms hs)

plus_plain : NoMark PLUS
plus_plain = record { no_open = λ e. omega arith; no_shut = λ e. omega arith; no_comma = λ e. omega arith }

module _ (s : Text) {t : Term} {u : Tree} (h : Spells s t u) where
  pub spelled_tokens : Each (Token s) (words (flatten s t))
  spelled_tokens =
      words_have (Token s) (code_token s OPEN (omega arith)) (code_token s SHUT (omega arith)) (code_token s COMMA (omega arith))
      (flatten_names (Token s) s (code_token s PLUS (omega arith)) (λ x w. w.token) h)

  pub spelled_ordered : length (words (flatten s t)) < 65536 → texts s (sums_ordered s PLUS (length (words (flatten s t))) (words (flatten s t))) ≡ canonical u
  unfolding canonical
  spelled_ordered k = ordered_text s PLUS plus_plain (flatten s t) (plain_term (flatten_names NoMark s plus_plain (λ x w. w.plain) h)) k ∙ flatten_text s h
