-- Sheets that are refused, with the refusal's number, and the sheets beside them that are not (01, "From the input", "From the state").
use Rattle.std.specs.Prelude.{ℕ, suc, List, [], ◌∷◌, ◌++◌, replicate}
use Prim.Native.String.{String}
use Rattle.rules.specs.Bytes.{Text}
use Rattle.rules.specs.Text.{bytes}
use Rattle.rules.specs.declared.Refusal.{Refusal}
use Rattle.rules.specs.declared.Refusal.TheVariants.{ForeignByte, LineOutOfPlace, UnreadableTerm, ShortWorkArea, ShortOutput}
use Rattle.rules.specs.RefusalNumbers.{number_for}
use Rattle.rules.specs.Call.{refused, passed}
use Rattle.rules.specs.Table.{Row, text, row}

-- lines that are refused with words and room enough
abbrev pub refuses : List String → Refusal → Row
refuses sheet r = record { sheet = text sheet; words = 2000000; room = 1000; reply = refused (number_for r) }

-- with no words and no room
abbrev pub at_once : Text → Refusal → Row
at_once sheet r = record { sheet = sheet; words = 0; room = 0; reply = refused (number_for r) }

-- so many blanks
abbrev pub blanks : ℕ → Text
blanks n = replicate n 32

abbrev pub refusals : List Row
refusals =
    -- 2: bytes 9, 31, 127 and 128, also where the lines are wrong
    at_once (bytes "kind=reduce\nterm=a\tb\n") ForeignByte
    ∷ at_once (bytes "kind=reduce\nterm=a" ++ (31 ∷ 10 ∷ [])) ForeignByte
    ∷ at_once (bytes "kind=reduce\nterm=a" ++ (127 ∷ 10 ∷ [])) ForeignByte
    ∷ at_once (128 ∷ []) ForeignByte
    -- 3: the empty sheet, the last line without byte 10, an empty line, an unknown kind, a kind with a blank
    ∷ at_once [] LineOutOfPlace
    ∷ at_once (bytes "kind=reduce\nterm=a") LineOutOfPlace
    ∷ at_once (bytes "kind=reduce\nterm=a\n\n") LineOutOfPlace
    ∷ at_once (bytes "kind=solve\n") LineOutOfPlace
    ∷ at_once (bytes "kind=unify \nfuel=1\n") LineOutOfPlace
    -- 3: lines that are missing, out of order or too many
    ∷ at_once (bytes "kind=equal\nleft=a\n") LineOutOfPlace
    ∷ at_once (bytes "kind=equal\nright=a\nleft=a\n") LineOutOfPlace
    ∷ at_once (bytes "kind=reduce\nterm=a\nterm=a\n") LineOutOfPlace
    ∷ at_once (bytes "kind=unify\nleft=a\nright=a\n") LineOutOfPlace
    ∷ at_once (bytes "kind=unify\nfuel=1\nleft=a\n") LineOutOfPlace
    ∷ at_once (bytes "kind=cover\nmember=\nleft=a\nright=a\n") LineOutOfPlace
    ∷ at_once (bytes "kind=sound\nterm=a\n") LineOutOfPlace
    ∷ at_once (bytes "kind=sound\nterm=a\nmember=a\nmember=a\n") LineOutOfPlace
    -- 3: fuel
    ∷ at_once (bytes "kind=unify\nfuel=\n") LineOutOfPlace
    ∷ at_once (bytes "kind=unify\nfuel=01\n") LineOutOfPlace
    ∷ at_once (bytes "kind=unify\nfuel=+1\n") LineOutOfPlace
    ∷ at_once (bytes "kind=unify\nfuel=65537\n") LineOutOfPlace
    ∷ row ("kind=unify" ∷ "fuel=65536" ∷ []) ("verdict=solved" ∷ "spent=0" ∷ [])
    ∷ row ("kind=unify" ∷ "fuel=0" ∷ []) ("verdict=unsupported" ∷ "spent=0" ∷ [])
    -- 3: a key before any member, and a member that repeats a key; another member may have it
    ∷ at_once (bytes "kind=complete\nterm=a\nkey=b\nvalue=c\n") LineOutOfPlace
    ∷ at_once (bytes "kind=complete\nterm=a\nmember=a\nkey=b\nvalue=c\nkey=b\nvalue=c\n") LineOutOfPlace
    ∷ row ("kind=complete" ∷ "term=a" ∷ "member=a" ∷ "key=b" ∷ "value=c" ∷ "member=a" ∷ "key=b" ∷ "value=c" ∷ []) ("complete=yes" ∷ [])
    -- 11 before 4, and 4 before 12
    ∷ at_once (bytes "kind=reduce\nterm=(\n") ShortWorkArea
    ∷ record { sheet = bytes "kind=reduce\nterm=(\n"; words = 2000000; room = 0; reply = refused (number_for UnreadableTerm) }
    ∷ record { sheet = bytes "kind=reduce\nterm=a\n"; words = 2000000; room = 0; reply = refused (number_for ShortOutput) }
    -- 4 in each kind; the text of a member gives none
    ∷ refuses ("kind=equal" ∷ "left=a" ∷ "right=a(" ∷ []) UnreadableTerm
    ∷ row ("kind=equal" ∷ "left=p(a)" ∷ "right=p(a)" ∷ []) ("equal=yes" ∷ [])
    ∷ refuses ("kind=unify" ∷ "fuel=1" ∷ "left=a" ∷ "right=a" ∷ "left=a" ∷ "right=p(a)" ∷ []) UnreadableTerm
    ∷ refuses ("kind=match" ∷ "fuel=0" ∷ "left=" ∷ "right=a" ∷ []) UnreadableTerm
    ∷ refuses ("kind=cover" ∷ "left=tamtplus(t(1))" ∷ "right=a" ∷ []) UnreadableTerm
    ∷ refuses ("kind=sound" ∷ "term=a)" ∷ "member=a" ∷ []) UnreadableTerm
    ∷ row ("kind=sound" ∷ "term=a" ∷ "member=a)" ∷ []) ("sound=none" ∷ [])
    ∷ refuses ("kind=complete" ∷ "term=a b" ∷ "member=a" ∷ []) UnreadableTerm
    ∷ row ("kind=complete" ∷ "term=a" ∷ "member=a)" ∷ []) ("complete=none" ∷ [])
    ∷ row ("kind=cover" ∷ "left=a" ∷ "right=a" ∷ "member=a)" ∷ []) ("covered=yes" ∷ [])
    ∷ []

-- lines with one word less than they need, which gives 11, and with the words that they need
abbrev pub one_less : List String → ℕ → List String → List Row
one_less sheet n answer =
    record { sheet = text sheet; words = n; room = 1000; reply = refused (number_for ShortWorkArea) }
    ∷ record { sheet = text sheet; words = suc n; room = 1000; reply = passed (text answer) }
    ∷ []

-- the words of each kind, with colons in texts and keys, and brackets: only those of the `term` line of `complete` count
abbrev pub least_words : List Row
least_words =
    one_less ("kind=equal" ∷ "left=g(c(0))" ∷ "right=g(c(0))" ∷ []) 1049183
    ("equal=yes" ∷ [])
    ++ one_less ("kind=unify" ∷ "fuel=9" ∷ "left=g(x0:Msg)" ∷ "right=g(c(0))" ∷ []) 1114863
    ("verdict=solved" ∷ "spent=2" ∷ "key=x0:Msg" ∷ "value=c(0)" ∷ [])
    ++ one_less ("kind=match" ∷ "fuel=9" ∷ "left=g(x0:Msg)" ∷ "right=g(c(0))" ∷ []) 1114863
    ("verdict=solved" ∷ "spent=2" ∷ "key=x0:Msg" ∷ "value=c(0)" ∷ [])
    ++ one_less ("kind=reduce" ∷ "term=g(x0:Msg)" ∷ []) 1114543
    ("normal=g(x0:Msg)" ∷ [])
    ++ one_less ("kind=cover" ∷ "left=g(x0:Msg)" ∷ "right=g(c(0))" ∷ "member=" ∷ "key=x0:Msg" ∷ "value=x1:Msg" ∷ []) 1246335
    ("covered=yes" ∷ [])
    ++ one_less ("kind=sound" ∷ "term=g(g(x0:Msg))" ∷ "member=g(g(c(0)))" ∷ "key=x0:Msg" ∷ "value=c(0)" ∷ []) 1180751
    ("sound=yes" ∷ [])
    ++ one_less ("kind=complete" ∷ "term=g(g(x0:Msg))" ∷ "member=g(g(x1:Msg))" ∷ "key=x0:Msg" ∷ "value=x1:Msg" ∷ []) 1574079
    ("complete=yes" ∷ [])
