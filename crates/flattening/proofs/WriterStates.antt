-- The state of the writer of words, and what each turn makes of it.
use Prim.Native.Nat.{ℕ, ◌+◌, ◌-◌, ◌<◌, ◌≤◌}
use mathlib.Core.Path.{◌≡◌, refl, sym, ap, ap₂, ◌∙◌}
use mathlib.Core.List.{List, [], ◌∷◌, ◌++◌, append-nil}
use Rattle.std.specs.Prelude.{Option, Some, None}
use lib.ListN.{length, get_or, take}
use lib.Seq.{slice, length-take-le}
use native.Mathlib.Omega.{arith}
use native.Mathlib.Decide.{dec_lt}
use Rattle.rules.specs.Bytes.{Text}
use Rattle.sheet.specs.declared.Place.{Place}
use Rattle.sheet.specs.Places.{word_of}
use Rattle.syntax.specs.Next.{next_symbol}
use Rattle.syntax.specs.declared.symbols.Symbol.{Symbol}
use Rattle.syntax.specs.declared.symbols.Symbol.TheVariants.{Begin, Shut, Comma, Name, Stop}
use Rattle.syntax.proofs.Meanings.{Marks, means_is}
use Rattle.text.specs.Frames.{Outside}
use Rattle.text.proofs.Frames.{outside_same, outside_on}
use Rattle.text.proofs.Slices.{slice_same, slice_join}
use Rattle.runs.specs.Texts.{Token, Tokens}
use Rattle.runs.specs.declared.TheConstants.{OPEN, SHUT, COMMA, PLUS}
use Rattle.runs.proofs.Each.{code_token, Each, none as no_words, more as more_words, each_at, slice_at}
use Rattle.flattening.specs.Items.{Item, begin, shut, comma, name, items_by, items_at, Mode, wanting, naming, having, emits, adds, in_sum, opening, bracket, bracket_at, closing, write, writes, text_words}
use Rattle.flattening.specs.Writer.{TextRoom, TextWords, finished}
use Rattle.flattening.specs.Writers.{Appended, open_brackets, open_in, Closes, BracketOpened}
use Rattle.flattening.specs.declared.writer.Writer.{Writer}
use Rattle.flattening.specs.declared.brackets.Bracket.{Bracket}
use Rattle.flattening.specs.declared.brackets.Bracket.TheVariants.{Plain, Sum, Inner}
use Rattle.flattening.specs.declared.brackets.Stack.{Stack}
use Rattle.flattening.proofs.ItemTokens.{items_is}
use Rattle.flattening.proofs.ItemWords.{emits_emits}
use Rattle.flattening.proofs.WriterSteps.{opening_short, closing_short, popped}
use Rattle.flattening.proofs.WriterTurns.{name_on, begin_on, shut_on, comma_on, off, wanting_off, having_off, naming_on}

-- the words of `out` are written, and what follows is the rest of the whole; v and k are what was lent for the words and the stack
pub record Writing (s : Text) (text : Place) (v k : List ℕ) (out : Writer) (stack : Stack) (at : ℕ) (m : Mode) : Type 0 where
  pub kept : Outside v out.words.now 0 (text.to - text.from)
  pub stack_kept : Outside k stack.words.now 0 (text.to - text.from)
  pub since : text.from ≤ at
  pub inside : at ≤ text.to
  pub room : out.end + text.from ≤ at
  pub deep : stack.depth + text.from ≤ at
  pub tokens : Tokens s out.words.now 0 out.end
  pub whole : emits (take out.end out.words.now) (writes s (items_at (take text.to s) at) m (open_in stack)) ≡ text_words s (take text.to s) text.from

-- ---- the words of a turn are tokens

place_token : (s : List ℕ) (p : Place) → p.from ≤ p.to → p.to ≤ length s → p.to < 65536 → Token s (word_of p)
place_token s p a b c = record { placed = λ p. omega arith }

opening_tokens : (s : List ℕ) (b : Bracket) (x : ℕ) → Token s x → Each (Token s) (opening b x)
opening_tokens s Plain x h = more_words h (more_words (code_token s OPEN (omega arith)) no_words)
opening_tokens s Sum x h = more_words (code_token s PLUS (omega arith)) (more_words (code_token s OPEN (omega arith)) no_words)
opening_tokens s Inner x h = no_words

closing_tokens : (s : List ℕ) (b : Bracket) → Each (Token s) (closing b)
closing_tokens s Plain = more_words (code_token s SHUT (omega arith)) no_words
closing_tokens s Sum = more_words (code_token s SHUT (omega arith)) no_words
closing_tokens s Inner = no_words

module _ {s : Text} {text : Place} {v k : List ℕ} (area : TextRoom s text v k) where
  abbrev State : Writer → Stack → ℕ → Mode → Type 0
  State = Writing s text v k

  -- the text's end, and the items and the symbol there
  abbrev read : Text
  read = take text.to s

  abbrev ahead : ℕ → Option (List Item)
  ahead = items_at read

  read_length : length read ≡ text.to
  read_length = length-take-le text.to s area.placed.fits

  -- the start
  pub writing_starts : (out : Writer) (stack : Stack) → out.words.now ≡ v → out.end ≡ 0 → stack.words.now ≡ k → stack.depth ≡ 0 → State out stack text.from wanting
  unfolding text_words open_brackets
  writing_starts out stack e z f d =
      record {
        kept = rw e (outside_same v 0 (text.to - text.from));
        stack_kept = rw f (outside_same k 0 (text.to - text.from));
        since = omega arith;
        inside = area.placed.start;
        room = omega arith;
        deep = omega arith;
        tokens = λ p q r. absurd (omega arith);
        whole = ap₂ (λ (n d : ℕ). emits (take n out.words.now) (writes s (ahead text.from) wanting (open_brackets stack.words.now d))) z d ∙ emits_none (writes s (ahead text.from) wanting []);
      }
    where
      emits_none : (o : Option (List ℕ)) → emits [] o ≡ o
      emits_none None = refl
      emits_none (Some l) = refl

  module _ {out : Writer} {stack : Stack} {at : ℕ} where
    -- a turn writes l
    moved : {m : Mode} → State out stack at m → {out₁ : Writer} (stack₁ : Stack) (at₁ : ℕ) (m₁ : Mode) (l : List ℕ) → Appended out out₁ l → Each (Token s) l
        → Outside k stack₁.words.now 0 (text.to - text.from)
        → at ≤ at₁ → at₁ ≤ text.to → out₁.end + text.from ≤ at₁ → stack₁.depth + text.from ≤ at₁
        → writes s (ahead at) m (open_in stack) ≡ emits l (writes s (ahead at₁) m₁ (open_in stack₁))
        → State out₁ stack₁ at₁ m₁
    moved h {out₁} stack₁ at₁ m₁ l g tl b a₁ i₁ r₁ d₁ ws =
        let n = g.end in
        let f = g.wrote.outside.len in
        let hf = h.kept.len in
        let hs = h.since in
        let sj : take out₁.end out₁.words.now ≡ take out.end out.words.now ++ l =
        ap (λ (t : ℕ). slice 0 t out₁.words.now) n ∙ sym (slice_join 0 out.end (out.end + length l) out₁.words.now (omega arith) (omega arith) (omega arith))
        ∙ ap₂ (λ (x y : List ℕ). x ++ y) (slice_same 0 out.end out₁.words.now out.words.now (omega arith) (omega arith) (λ p q r. g.wrote.outside.below p r)) g.wrote.words in
        record {
          kept = outside_on (omega arith) (omega arith) h.kept g.wrote.outside;
          stack_kept = b;
          since = omega arith;
          inside = i₁;
          room = r₁;
          deep = d₁;
          tokens = λ p q r. token p r;
          whole = ap (λ (k : List ℕ). emits k (writes s (ahead at₁) m₁ (open_in stack₁))) sj
              ∙ sym (emits_emits (take out.end out.words.now) l (writes s (ahead at₁) m₁ (open_in stack₁)))
              ∙ ap (emits (take out.end out.words.now)) (sym ws) ∙ h.whole;
        }
      where
        token : (p : ℕ) → p < out₁.end → Token s (get_or out₁.words.now p 0)
        token p r = elim (dec_lt p out.end) [
          | yes i ↦ (let z = g.wrote.outside.below p i in rw z (h.tokens p (omega arith) i))
          | no i ↦ (
              let n = g.end in
              let z : out.end + (p - out.end) ≡ p = omega arith in
              let x : get_or (slice out.end (out.end + length l) out₁.words.now) (p - out.end) 0 ≡ get_or out₁.words.now p 0 =
              slice_at out.end (out.end + length l) (p - out.end) out₁.words.now (omega arith) ∙ ap (λ (i : ℕ). get_or out₁.words.now i 0) z in
              let w = g.wrote.words in
              let t : Each (Token s) (slice out.end (out.end + length l) out₁.words.now) = rw w tl in
              let ll : length (slice out.end (out.end + length l) out₁.words.now) ≡ length l = ap length w in
              rw x at (each_at (Token s) (p - out.end) t (omega arith)))
        ]

    -- ---- what is read is there, and there is room for what is written

    -- a symbol that ends at t
    room_until : {m : Mode} → State out stack at m → {t : ℕ} → at < t → t ≤ length read
        → (t ≤ text.to) × (out.end < length out.words.now) × (out.end + 1 + text.from ≤ t) × (stack.depth + text.from < t) × (stack.depth < length stack.words.now)
    room_until h p q =
        let l = read_length in
        let a = h.kept.len in
        let b = h.stack_kept.len in
        let c = h.since in
        let d = h.room in
        let f = h.deep in
        (omega arith, omega arith, omega arith, omega arith, omega arith)

    pub name_room : State out stack at wanting → {p : Place} → Some (Name p) ≡ next_symbol read at
        → (p.from < p.to) × (at < p.to) × (p.to ≤ text.to) × (out.end < length out.words.now) × (out.end + 1 + text.from ≤ p.to) × (stack.depth + text.from < p.to) × (stack.depth < length stack.words.now)
    name_room h {p} e =
        let n = means_is read at e (Some (Name p)) refl in
        let g = n.past in
        let i = n.some_bytes in
        let past : at < p.to = omega arith in
        let r = room_until h past n.within in
        (omega arith, past, r.0, r.1, r.2, r.3, r.4)

    pub mark_room : {m : Mode} → State out stack at m → {t : ℕ} {c : Text} → Marks read at t c → (at < t) × (t ≤ text.to) × (out.end < length out.words.now) × (stack.depth ≤ length stack.words.now)
    mark_room h n =
        let r = room_until h n.past n.within in
        (n.past, r.0, r.1, omega (arith, r.4))

    pub open_room : State out stack at wanting → {p : Place} {u : ℕ} → Some (Name p) ≡ next_symbol read at → Some (Begin u) ≡ next_symbol read p.to → (p.to < u) × (u ≤ text.to) × (out.end + 2 ≤ length out.words.now)
    open_room h {p} {u} e₁ e₂ =
        let n = name_room h e₁ in
        let k = means_is read p.to e₂ (Some (Begin u)) refl in
        let l = read_length in
        let a = h.kept.len in
        let c = h.since in
        let d = h.room in
        let g = k.past in
        let j = k.within in
        (omega arith, omega arith, omega arith)

    -- ---- the turns

    word_token : {m : Mode} → State out stack at m → {p : Place} → p.from < p.to → p.to ≤ text.to → Token s (word_of p)
    word_token h {p} a b = place_token s p (omega arith) (omega (arith, area.placed.fits)) (omega (arith, area.placed.small))

    -- a name and a bracket
    pub open_turn : State out stack at wanting → {p : Place} {u : ℕ} → Some (Name p) ≡ next_symbol read at → Some (Begin u) ≡ next_symbol read p.to → {out₁ : Writer} {stack₁ : Stack} → BracketOpened s (word_of p) stack stack₁ out out₁ → State out₁ stack₁ u wanting
    open_turn h {p} {u} e₁ e₂ {out₁} {stack₁} o =
        let n = name_room h e₁ in
        let r = open_room h e₁ e₂ in
        let x = word_of p in
        let cs = open_in stack in
        let b = bracket (adds s x) (in_sum cs) in
        let y = opening_short b x in
        let w = o.words.end in
        let d = o.opens.deeper in
        let hd = h.deep in
        let hs = h.since in
        let hr = h.room in
        moved h stack₁ u wanting (opening b x) o.words (opening_tokens s b x (word_token h n.0 n.2))
        (outside_on (omega arith) (omega arith) h.stack_kept o.opens.outside)
        (omega arith) (omega arith) (omega arith) (omega arith)
        (ap (λ (o : Option (List Item)). writes s o wanting cs) (items_is read at e₁ (Some (Name p)) refl)
        ∙ name_on s x (ahead p.to) cs
        ∙ ap (λ (o : Option (List Item)). writes s o (naming x) cs) (items_is read p.to e₂ (Some (Begin u)) refl)
        ∙ begin_on s x (ahead u) cs
        ∙ ap (λ (ds : List Bracket). emits (opening b x) (writes s (ahead u) wanting ds)) (sym o.opens.held))

    -- one word more; the brackets stay
    one_more : {m : Mode} → State out stack at m → {out₁ : Writer} (at₁ : ℕ) (m₁ : Mode) (x : ℕ) → Appended out out₁ (x ∷ []) → Token s x → at < at₁ → at₁ ≤ text.to
        → writes s (ahead at) m (open_in stack) ≡ emits (x ∷ []) (writes s (ahead at₁) m₁ (open_in stack))
        → State out₁ stack at₁ m₁
    one_more h at₁ m₁ x g tx a b e =
        let w = g.end in
        let hd = h.deep in
        let hr = h.room in
        moved h stack at₁ m₁ (x ∷ []) g (more_words tx no_words) h.stack_kept (omega arith) b (omega arith) (omega arith) e

    -- a name that no bracket follows
    pub name_turn : State out stack at wanting → {p : Place} → Some (Name p) ≡ next_symbol read at → {q : Option Symbol} → q ≡ next_symbol read p.to → ((u : ℕ) → q ≡ Some (Begin u) → ⊥) → {x : ℕ} → x ≡ word_of p → {out₁ : Writer} → Appended out out₁ (x ∷ []) → State out₁ stack p.to having
    name_turn h {p} e₁ {q} e₂ k {x} ex g =
        let n = name_room h e₁ in
        let cs = open_in stack in
        let y = word_of p in
        let it = items_is read p.to e₂ q refl in
        one_more h p.to having x g (rw ex (word_token h n.0 n.2)) n.1 n.2
        (ap (λ (o : Option (List Item)). writes s o wanting cs) (items_is read at e₁ (Some (Name p)) refl)
        ∙ name_on s y (ahead p.to) cs
        ∙ ap (λ (o : Option (List Item)). writes s o (naming y) cs) it
        ∙ naming_on s ahead y cs q k
        ∙ ap₂ (λ (y : ℕ) (o : Option (List Item)). emits (y ∷ []) (writes s o having cs)) (sym ex) (sym it))

    pub comma_turn : State out stack at having → {t : ℕ} → Some (Comma t) ≡ next_symbol read at → (stack.depth ≡ 0 → ⊥) → {out₁ : Writer} → Appended out out₁ (COMMA ∷ []) → State out₁ stack t wanting
    comma_turn h {t} e d g =
        let n = mark_room h (means_is read at e (Some (Comma t)) refl) in
        let lb = popped stack.words.now stack.depth d in
        one_more h t wanting COMMA g (code_token s COMMA (omega arith)) n.0 n.1
        (ap₂ (λ (o : Option (List Item)) (cs : List Bracket). writes s o having cs) (items_is read at e (Some (Comma t)) refl) lb
        ∙ comma_on s (ahead t) (bracket_at (get_or stack.words.now (stack.depth - 1) 0)) (open_brackets stack.words.now (stack.depth - 1))
        ∙ ap (λ (cs : List Bracket). emits (COMMA ∷ []) (writes s (ahead t) wanting cs)) (sym lb))

    pub shut_turn : State out stack at having → {t : ℕ} → Some (Shut t) ≡ next_symbol read at → {stack₁ : Stack} {c : Bracket} → Closes stack stack₁ c → {out₁ : Writer} → Appended out out₁ (closing c) → State out₁ stack₁ t having
    shut_turn h {t} e {stack₁} {c} k g =
        let n = mark_room h (means_is read at e (Some (Shut t)) refl) in
        let cs = open_in stack₁ in
        let y = closing_short c in
        let w = g.end in
        let hd = h.deep in
        let hr = h.room in
        let d = k.higher in
        moved h stack₁ t having (closing c) g (closing_tokens s c)
        (rw (ap (λ x. x.now) k.words) h.stack_kept)
        (omega arith) n.1 (omega arith) (omega arith)
        (ap₂ (λ (o : Option (List Item)) (cs : List Bracket). writes s o having cs) (items_is read at e (Some (Shut t)) refl) k.held
        ∙ shut_on s (ahead t) c cs)

    -- ---- the ends

    pub kept_as : {m : Mode} → State out stack at m → {w : List ℕ} → w ≡ out.words.now → Outside v w 0 (text.to - text.from)
    kept_as h e = rw e h.kept

    pub stack_kept_as : {m : Mode} → State out stack at m → {w : List ℕ} → w ≡ stack.words.now → Outside k w 0 (text.to - text.from)
    stack_kept_as h e = rw e h.stack_kept

    none_ahead : {m : Mode} → State out stack at m → writes s (ahead at) m (open_in stack) ≡ None → text_words s read text.from ≡ None
    none_ahead h e = sym h.whole ∙ ap (emits (take out.end out.words.now)) e

    pub no_symbol : {m : Mode} → State out stack at m → None ≡ next_symbol read at → text_words s read text.from ≡ None
    no_symbol {m} h e = none_ahead h (ap (λ (o : Option (List Item)). writes s o m (open_in stack)) (items_is read at e None refl))

    pub no_name : State out stack at wanting → {q : Option Symbol} → q ≡ next_symbol read at → ((p : Place) → q ≡ Some (Name p) → ⊥) → text_words s read text.from ≡ None
    no_name h {q} e k =
        let cs = open_in stack in
        none_ahead h (ap (λ (o : Option (List Item)). writes s o wanting cs) (items_is read at e q refl) ∙ wanting_off s ahead cs q k)

    -- a name after which no token stands
    pub no_next : State out stack at wanting → {p : Place} → Some (Name p) ≡ next_symbol read at → None ≡ next_symbol read p.to → text_words s read text.from ≡ None
    no_next h {p} e₁ e₂ =
        let cs = open_in stack in
        none_ahead h
        (ap (λ (o : Option (List Item)). writes s o wanting cs) (items_is read at e₁ (Some (Name p)) refl)
        ∙ name_on s (word_of p) (ahead p.to) cs
        ∙ ap (λ (o : Option (List Item)). writes s o (naming (word_of p)) cs) (items_is read p.to e₂ None refl))

    pub no_delimiter : State out stack at having → {q : Option Symbol} → q ≡ next_symbol read at → ((t : ℕ) → q ≡ Some (Comma t) → ⊥) → ((t : ℕ) → q ≡ Some (Shut t) → ⊥) → (stack.depth ≡ 0 → ⊥) → text_words s read text.from ≡ None
    no_delimiter h {q} e k l d =
        let c = bracket_at (get_or stack.words.now (stack.depth - 1) 0) in
        let cs = open_brackets stack.words.now (stack.depth - 1) in
        none_ahead h
        (ap₂ (λ (o : Option (List Item)) (cs : List Bracket). writes s o having cs) (items_is read at e q refl) (popped stack.words.now stack.depth d) ∙ having_off s ahead c cs q k l)

    -- no bracket is open
    pub finish_turn : State out stack at having → {q : Symbol} → Some q ≡ next_symbol read at → stack.depth ≡ 0 → {r : Option ℕ} → r ≡ finished q out.end → {w : List ℕ} → w ≡ out.words.now → TextWords s w text r
    unfolding write open_brackets
    finish_turn h {q} e d {r} g f = rw (f, g) (by q (ap₂ (λ (o : Option (List Item)) (cs : List Bracket). writes s o having cs) (items_is read at e (Some q) refl) (none_open d)))
      where
        none_open : stack.depth ≡ 0 → open_in stack ≡ []
        none_open d = rw d refl

        by : (q : Symbol) → writes s (ahead at) having (open_in stack) ≡ writes s (items_by (Some q) ahead) having [] → TextWords s out.words.now text (finished q out.end)
        by (Begin t) a = none_ahead h (a ∙ off s begin having (ahead t) [] (λ is. refl))
        by (Shut t) a = none_ahead h (a ∙ off s shut having (ahead t) [] (λ is. refl))
        by (Comma t) a = none_ahead h (a ∙ off s comma having (ahead t) [] (λ is. refl))
        by (Name p) a = none_ahead h (a ∙ off s (name (word_of p)) having (ahead p.to) [] (λ is. refl))
        by Stop a =
            record {
              room = (let x = h.room in let y = h.inside in omega arith);
              words = sym h.whole ∙ ap (emits (take out.end out.words.now)) a ∙ ap Some (append-nil (take out.end out.words.now));
              tokens = h.tokens;
            }
