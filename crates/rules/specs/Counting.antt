-- Reading with the Rust's counter: one for each leaf and for each closed list, and a closed list is refused over twice 4,096
-- (01, "Reading": the Rust's count; unifier.rs, `parse`).
use Rattle.std.specs.Prelude.{ℕ, zero, suc, List, [], ◌∷◌, not, length, leb, Option, Some, None}
use Rattle.rules.specs.Bytes.{Text}
use Rattle.rules.specs.Text.{bytes, is_one_of}
use Rattle.rules.specs.Maybe.{◌>>=◌, guard}
use Rattle.rules.specs.Tree.{Tree, Trees, more, size}
use Rattle.rules.specs.Tokens.{tokens}
use Rattle.rules.specs.Reading.{leaf, close, after_token, wholly}

-- `read_term` and `read_list` with `close`: `nodes` is the counter before, and the counter after stands before the tokens that are left
unfoldable mutual
  unfolding is_one_of leaf after_token close

  pub count_term : ℕ → ℕ → List Text → Option (Tree × ℕ × List Text)
  count_term zero nodes ts = None
  count_term (suc k) nodes [] = None
  count_term (suc k) nodes (n ∷ ts) =
      guard (not (is_one_of (bytes "(" ∷ bytes ")" ∷ bytes "," ∷ []) n)) >>= λ _.
      elim (after_token (bytes "(") ts) [
        | None ↦ Some (leaf n, suc nodes, ts)
        | Some us ↦ count_list k nodes us >>= λ (children, inner, vs). guard (leb (suc inner) 8192) >>= λ _. close n children >>= λ t. Some (t, suc inner, vs)
      ]

  pub count_list : ℕ → ℕ → List Text → Option (Trees × ℕ × List Text)
  count_list zero nodes ts = None
  count_list (suc k) nodes ts =
      count_term k nodes ts >>= λ (t, first, us).
      elim (after_token (bytes ",") us) [
        | Some vs ↦ count_list k first vs >>= λ (rest, all, ws). Some (more t rest, all, ws)
        | None ↦ after_token (bytes ")") us >>= λ vs. Some (more t Trees.none, first, vs)
      ]

-- the tree of a text of at most 4,096 nodes
unfoldable pub parse_counted : Text → Option Tree
unfolding tokens count_term size
parse_counted s = do
  ts ← tokens s
  (read, nodes, us) ← count_term (length ts) 0 ts
  t ← wholly (Some (read, us))
  _ ← guard (leb (size t) 4096)
  Some t
