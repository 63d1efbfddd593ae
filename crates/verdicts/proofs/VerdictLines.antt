-- The lines of a verdict, one part after another.
use Prim.Native.Nat.{ℕ, ◌+◌, ◌<◌}
use mathlib.Core.Path.{◌≡◌, refl, sym, ap, ◌∙◌}
use mathlib.Core.List.{List, [], ◌∷◌, ◌++◌, append_assoc, append-nil}
use Rattle.std.specs.Prelude.{Some, None}
use lib.ListN.{length}
use native.Mathlib.Omega.{arith}
use Rattle.rules.specs.Bytes.{Text}
use Rattle.rules.specs.Text.{bytes}
use Rattle.rules.specs.Tree.{Tree}
use Rattle.rules.specs.Writing.{render}
use Rattle.rules.specs.Substitution.{Binding}
use Rattle.rules.specs.Solving.{solved}
use Rattle.rules.specs.declared.Ending.{Ending}
use Rattle.rules.specs.declared.Ending.TheVariants as ending
use Rattle.rules.specs.Answer.{line, binding_lines, verdict_lines}
use Rattle.laws.specs.Laying.{binding_entries, verdict_entries, line_count}
use Rattle.tree.specs.declared.area.Area.{Area}
use Rattle.tree.specs.Areas.{next_in, tree_in, trees_in}
use Rattle.tree.specs.Lists.{cells_from}
use Rattle.substitution.proofs.ByCells.{cells_end, cells_step}
use Rattle.printing.specs.Putting.{PutInto}
use Rattle.printing.specs.declared.output.Output.{Output}
use Rattle.printing.specs.Paper.{lines_for}
use Rattle.printing.proofs.Puts.{puts_none, puts_then, puts_past, puts_uncounted, puts_lines, puts_as}
use Rattle.substitution.specs.Bindings.{Chain}
use Rattle.substitution.specs.Areas.{bindings_in}
use Rattle.substitution.specs.Answers.{stopped}
use Rattle.substitution.proofs.Keys.{bindings_none}
use Rattle.substitution.proofs.Chains.{Entry, value_some, entry}
use Rattle.verdicts.specs.Verdicts.{ending_word, head_lines, head_count}

-- the verdicts by these parts

pub stopped_lines : (e : Ending) (spent : ℕ) → verdict_lines (stopped e, spent) ≡ head_lines (ending_word e) spent
unfolding verdict_lines head_lines
stopped_lines ending.Failed spent = refl
stopped_lines ending.Unsupported spent = refl

pub solved_lines : (bs : List Binding) (spent : ℕ) → verdict_lines (solved bs, spent) ≡ head_lines (bytes "solved") spent ++ binding_lines bs
unfolding verdict_lines head_lines
solved_lines bs spent = refl

-- and their lines on paper

pub stopped_count : (e : Ending) (spent : ℕ) → head_count (ending_word e) spent ≡ line_count (verdict_entries (stopped e, spent))
unfolding line_count verdict_entries
stopped_count ending.Failed spent = omega arith
stopped_count ending.Unsupported spent = omega arith

pub solved_count : (bs : List Binding) (spent : ℕ) → head_count (bytes "solved") spent + line_count (binding_entries bs) ≡ line_count (verdict_entries (solved bs, spent))
unfolding line_count verdict_entries
solved_count bs spent = omega arith

-- the bindings from cell k on

pub lines_none : (a : Area) (k : ℕ) → k ≡ 0 → binding_lines (bindings_in a k) ≡ []
unfolding binding_lines
lines_none a k e = ap binding_lines (bindings_none a.sheet.now a.work.now k e)

count_none : (a : Area) (k : ℕ) → k ≡ 0 → line_count (binding_entries (bindings_in a k)) ≡ 0
unfolding line_count binding_entries
count_none a k e = ap (λ (bs : List Binding). line_count (binding_entries bs)) (bindings_none a.sheet.now a.work.now k e)

module _ (a : Area) (k v : ℕ) (p : 0 < k) (q : k < a.free) (c : Chain (trees_in a k)) (e : v ≡ next_in a k) where
  pub value_cell : (0 < v) × (v < a.free)
  value_cell = (value_some a.sheet.now a.arena.links k v p q c e, omega (arith, a.arena.links.next k p q))

  module _ (j : ℕ) (f : j ≡ next_in a v) where
    here : Entry a.sheet.now a.work.now k v j
    here = entry a.sheet.now a.arena.links k v p q c e j f

    pub rest_chain : Chain (trees_in a j)
    rest_chain = here.chain

    pub lines_more : binding_lines (bindings_in a k) ≡ line (bytes "key=") (render (tree_in a k)) ++ (line (bytes "value=") (render (tree_in a v)) ++ binding_lines (bindings_in a j))
    unfolding binding_lines render
    lines_more =
        ap binding_lines here.read
        ∙ append_assoc (line (bytes "key=") _) (line (bytes "value=") (render (tree_in a v))) (binding_lines (bindings_in a j))
        ∙ ap (λ (t : Tree). line (bytes "key=") (render t) ++ (line (bytes "value=") (render (tree_in a v)) ++ binding_lines (bindings_in a j))) (sym here.key)

    pub count_more : line_count (binding_entries (bindings_in a k))
        ≡ lines_for (length (render (tree_in a k))) + (lines_for (length (render (tree_in a v))) + line_count (binding_entries (bindings_in a j)))
    unfolding line_count binding_entries render
    count_more =
        ap (λ (bs : List Binding). line_count (binding_entries bs)) here.read
        ∙ ap (λ (t : Tree). lines_for (length (render t)) + (lines_for (length (render (tree_in a v))) + line_count (binding_entries (bindings_in a j)))) (sym here.key)

-- a part of a text of n lines on paper is put, and the rest, of m, is to come
pub record Begun (a b : Output) (whole : Text) (n : ℕ) (rest : Text) (m : ℕ) : Type 0 where
  pub done : Text
  pub count : ℕ
  pub split : done ++ rest ≡ whole
  pub counted : count + m ≡ n
  pub put : PutInto a b done count (Some (tt {0}))

pub begun_none : (a : Output) (whole : Text) (n : ℕ) → Begun a a whole n whole n
begun_none a whole n = record { done = []; count = 0; split = refl; counted = omega arith; put = puts_none a }

module _ {a b : Output} {whole : Text} {n : ℕ} {rest : Text} {m : ℕ} (g : Begun a b whole n rest m) (t on : Text) (e : rest ≡ t ++ on) where
  whole_is : (g.done ++ t) ++ on ≡ whole
  whole_is = append_assoc g.done t on ∙ ap (λ (z : Text). g.done ++ z) (sym e) ∙ g.split

  pub begun_more : {c : Output} {k j : ℕ} → m ≡ k + j → PutInto b c t k (Some (tt {0})) → Begun a c whole n on j
  begun_more {k = k} f p = record { done = g.done ++ t; count = g.count + k; split = whole_is; counted = omega (arith, g.counted); put = puts_then g.put p }

  pub begun_past : {c : Output} {k : ℕ} → PutInto b c t k None → PutInto a c whole n None
  begun_past p = puts_as whole_is (puts_uncounted (puts_past on (puts_then g.put p)))

pub begun_all : {a b : Output} {whole rest : Text} {n m : ℕ} → Begun a b whole n rest m → rest ≡ [] → m ≡ 0 → PutInto a b whole n (Some (tt {0}))
begun_all {n = n} g e f =
    let l : g.count ≡ n = omega (arith, g.counted) in
    puts_lines l (puts_as (sym (append-nil g.done) ∙ ap (λ (z : Text). g.done ++ z) (sym e) ∙ g.split) g.put)

-- the lines of the bindings from a cell k on, whose list of cells is ks, are to come
pub record Telling (a : Area) (x y : Output) (whole : Text) (n : ℕ) (ks : List ℕ) : Type 0 where
  pub key : ℕ
  pub inside : key < a.free
  pub cells : ks ≡ cells_from a key
  pub chain : Chain (trees_in a key)
  pub begun : Begun x y whole n (binding_lines (bindings_in a key)) (line_count (binding_entries (bindings_in a key)))

pub telling_all : (a : Area) (x : Output) (b : ℕ) {ks : List ℕ} → (b < a.free) × Chain (trees_in a b) → ks ≡ cells_from a b
    → Telling a x x (binding_lines (bindings_in a b)) (line_count (binding_entries (bindings_in a b))) ks
telling_all a x b h e = record {
  key = b;
  inside = h.0;
  cells = e;
  chain = h.1;
  begun = begun_none x (binding_lines (bindings_in a b)) (line_count (binding_entries (bindings_in a b)));
}

module _ {a : Area} {x y : Output} {whole : Text} {n : ℕ} {ks : List ℕ} (h : Telling a x y whole n ks) where
  pub telling_end : ks ≡ [] → PutInto x y whole n (Some (tt {0}))
  telling_end e =
      let z = cells_end a h.key h.inside (sym h.cells ∙ e) in
      begun_all h.begun (lines_none a h.key z) (count_none a h.key z)

  module _ {k : ℕ} {js : List ℕ} (e : ks ≡ k ∷ js) where
    key_step : (0 < h.key) × (k ≡ h.key) × (js ≡ cells_from a (next_in a h.key)) × (next_in a h.key < a.free)
    key_step = cells_step a h.key h.inside (sym h.cells ∙ e)

    pub telling_key : (0 < k) × (k < a.free)
    telling_key = let s = key_step in (omega (arith, s.0, s.1), omega (arith, h.inside, s.1))

    pub telling_odd : js ≡ [] → ⊥
    telling_odd f =
        let s = key_step in
        let v = value_cell a h.key (next_in a h.key) s.0 h.inside h.chain refl in
        let z = cells_end a (next_in a h.key) s.3 (sym s.2 ∙ f) in
        omega (arith, v.0, z)

    module _ {v : ℕ} {is : List ℕ} (f : js ≡ v ∷ is) where
      value_step : (0 < next_in a h.key) × (v ≡ next_in a h.key) × (is ≡ cells_from a (next_in a (next_in a h.key))) × (next_in a (next_in a h.key) < a.free)
      value_step = cells_step a (next_in a h.key) key_step.3 (sym key_step.2 ∙ f)

      pub telling_value : (0 < v) × (v < a.free)
      telling_value = let s = key_step in let t = value_step in (omega (arith, t.0, t.1), omega (arith, s.3, t.1))

      here_lines : binding_lines (bindings_in a h.key) ≡ line (bytes "key=") (render (tree_in a k)) ++ (line (bytes "value=") (render (tree_in a v)) ++ binding_lines (bindings_in a (next_in a (next_in a h.key))))
      here_lines =
          let s = key_step in
          let t = value_step in
          lines_more a h.key v s.0 h.inside h.chain t.1 (next_in a (next_in a h.key)) (ap (next_in a) (sym t.1))
          ∙ ap (λ (i : ℕ). line (bytes "key=") (render (tree_in a i)) ++ (line (bytes "value=") (render (tree_in a v)) ++ binding_lines (bindings_in a (next_in a (next_in a h.key))))) (sym s.1)

      here_count : line_count (binding_entries (bindings_in a h.key))
          ≡ lines_for (length (render (tree_in a k))) + (lines_for (length (render (tree_in a v))) + line_count (binding_entries (bindings_in a (next_in a (next_in a h.key)))))
      here_count =
          let s = key_step in
          let t = value_step in
          count_more a h.key v s.0 h.inside h.chain t.1 (next_in a (next_in a h.key)) (ap (next_in a) (sym t.1))
          ∙ ap (λ (i : ℕ). lines_for (length (render (tree_in a i))) + (lines_for (length (render (tree_in a v))) + line_count (binding_entries (bindings_in a (next_in a (next_in a h.key)))))) (sym s.1)

      pub key_past : {z : Output} → PutInto y z (line (bytes "key=") (render (tree_in a k))) (lines_for (length (render (tree_in a k)))) None → PutInto x z whole n None
      key_past p = begun_past h.begun _ _ here_lines p

      module _ {m : Output} (p : PutInto y m (line (bytes "key=") (render (tree_in a k))) (lines_for (length (render (tree_in a k)))) (Some (tt {0}))) where
        key_told : Begun x m whole n (line (bytes "value=") (render (tree_in a v)) ++ binding_lines (bindings_in a (next_in a (next_in a h.key))))
            (lines_for (length (render (tree_in a v))) + line_count (binding_entries (bindings_in a (next_in a (next_in a h.key)))))
        key_told = begun_more h.begun _ _ here_lines here_count p

        pub value_past : {z : Output} → PutInto m z (line (bytes "value=") (render (tree_in a v))) (lines_for (length (render (tree_in a v)))) None → PutInto x z whole n None
        value_past q = begun_past key_told _ _ refl q

        pub telling_more : {z : Output} → PutInto m z (line (bytes "value=") (render (tree_in a v))) (lines_for (length (render (tree_in a v)))) (Some (tt {0})) → Telling a x z whole n is
        telling_more q =
            let s = key_step in
            let t = value_step in
            record {
              key = next_in a (next_in a h.key);
              inside = t.3;
              cells = t.2;
              chain = rest_chain a h.key v s.0 h.inside h.chain t.1 (next_in a (next_in a h.key)) (ap (next_in a) (sym t.1));
              begun = begun_more key_told _ _ refl refl q;
            }
