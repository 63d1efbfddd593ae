use Rattle.std.proofs.Common.{rules, sym, ap, length, ◌++◌, ◌∙◌}
use Rattle.equivalence.proofs.Canons.{settle_tokens, canon_of}
use Rattle.equivalence.proofs.words.tree_words.Goals as goal

pub sort_sums-requires-clause-tokens : goal.sort_sums-requires-clause-tokens
sort_sums-requires-clause-tokens c =
    let f = c.split_at_mut-written.ensures in
    let g = c.split_at_mut-words.ensures in
    settle_tokens c.put_term.ensures c.requires.small _ _ c.split_at_mut-written.result.1.now (f.value ∙ ap (λ l. l ++ c.split_at_mut-written.result.1.now) g.value) g.front_len (ap length (sym g.value) ∙ f.front_len)

pub returns : goal.returns
returns c =
    let f = c.split_at_mut-written.ensures in
    let g = c.split_at_mut-words.ensures in
    let o = c.sort_sums.ensures in
    record {
      lent = c.put_term.ensures.words.lent;
      canon = canon_of c.put_term.ensures c.requires.small _ _ c.split_at_mut-written.result.1.now (f.value ∙ ap (λ l. l ++ c.split_at_mut-written.result.1.now) g.value) g.front_len (ap length (sym g.value) ∙ f.front_len)
          c.requires.room _ _ (search rules) o.sorted c.sort_sums.auto.words o.tokens o.len o.rest;
    }
