-- More sheets with their whole answers: sums of three and more summands, the rules of `complete` one by one, trees whose names do not
-- have their counts of arguments, variables of sort Fresh and Node, indices, the order of bindings, ground summands.
use Rattle.std.specs.Prelude.{List, [], ◌∷◌}
use Prim.Native.String.{String}
use Rattle.rules.specs.Call.{passed}
use Rattle.rules.specs.Table.{Row, text, row}

-- sums with blanks, with sums inside and of seven summands; three summands that are left on one side
abbrev pub long_sums : List Row
long_sums =
    row ("kind=reduce" ∷ "term= tamtplus ( t(1),t(2) , t( 3 ),t(4) ) " ∷ [])
    ("normal=tamtplus(t(1),tamtplus(t(2),tamtplus(t(3),t(4))))" ∷ [])
    ∷ row ("kind=reduce" ∷ "term=tamtplus(tamtplus(t(1),t(2),t(3)),t(4),tamtplus(t(5),t(6)),t(7),t(8),t(9),t(10))" ∷ [])
    ("normal=tamtplus(tamtplus(t(1),tamtplus(t(2),t(3))),tamtplus(t(4),tamtplus(tamtplus(t(5),t(6)),tamtplus(t(7),tamtplus(t(8),tamtplus(t(9),t(10)))))))" ∷ [])
    ∷ row ("kind=unify" ∷ "fuel=9" ∷ "left=tamtplus(x0:TamNat,t(1))" ∷ "right=tamtplus(t(1),t(2),t(3),t(4))" ∷ [])
    ("verdict=solved" ∷ "spent=2" ∷ "key=x0:TamNat" ∷ "value=tamtplus(t(2),tamtplus(t(3),t(4)))" ∷ [])
    ∷ row ("kind=unify" ∷ "fuel=9" ∷ "left=tamtplus(t(1),t(2),t(3),t(4))" ∷ "right=tamtplus(t(3),x0:TamNat)" ∷ [])
    ("verdict=solved" ∷ "spent=2" ∷ "key=x0:TamNat" ∷ "value=tamtplus(t(1),tamtplus(t(2),t(4)))" ∷ [])
    ∷ row ("kind=match" ∷ "fuel=9" ∷ "left=tamtplus(x0:TamNat,t(1))" ∷ "right=tamtplus(t(1),t(2),t(3),t(4))" ∷ [])
    ("verdict=solved" ∷ "spent=2" ∷ "key=x0:TamNat" ∷ "value=tamtplus(t(2),tamtplus(t(3),t(4)))" ∷ [])
    ∷ []

-- for each rule but that of `tamXCfst`, which stands in `families`: members that are complete, and such as are not, where one gives another
-- part or is missing
abbrev pub rule_members : List Row
rule_members =
    row ("kind=complete" ∷ "term=tamXCsnd(x0:Msg)"
    ∷ "member=tamXCsnd(x0:Msg)"
    ∷ "member=x2:Msg" ∷ "key=x0:Msg" ∷ "value=tamXCpair(x1:Msg,x2:Msg)"
    ∷ [])
    ("complete=yes" ∷ [])
    ∷ row ("kind=complete" ∷ "term=tamXCsnd(x0:Msg)"
    ∷ "member=tamXCsnd(x0:Msg)"
    ∷ "member=x1:Msg" ∷ "key=x0:Msg" ∷ "value=tamXCpair(x1:Msg,x2:Msg)"
    ∷ [])
    ("complete=no" ∷ [])
    ∷ row ("kind=complete" ∷ "term=tamXCflip(x0:Msg)"
    ∷ "member=tamXCflip(x0:Msg)"
    ∷ "member=tamXCroleB" ∷ "key=x0:Msg" ∷ "value=tamXCroleA"
    ∷ "member=tamXCroleA" ∷ "key=x0:Msg" ∷ "value=tamXCroleB"
    ∷ [])
    ("complete=yes" ∷ [])
    ∷ row ("kind=complete" ∷ "term=tamXCflip(x0:Msg)"
    ∷ "member=tamXCflip(x0:Msg)"
    ∷ "member=tamXCroleB" ∷ "key=x0:Msg" ∷ "value=tamXCroleA"
    ∷ [])
    ("complete=no" ∷ [])
    ∷ row ("kind=complete" ∷ "term=tamXCflip(x0:Msg)"
    ∷ "member=tamXCflip(x0:Msg)"
    ∷ "member=tamXCroleA" ∷ "key=x0:Msg" ∷ "value=tamXCroleB"
    ∷ [])
    ("complete=no" ∷ [])
    ∷ row ("kind=complete" ∷ "term=tamXCsdec(x0:Msg,x1:Msg)"
    ∷ "member=tamXCsdec(x0:Msg,x1:Msg)"
    ∷ "member=x2:Msg" ∷ "key=x0:Msg" ∷ "value=tamXCsenc(x2:Msg,x3:Msg)" ∷ "key=x1:Msg" ∷ "value=x3:Msg"
    ∷ [])
    ("complete=yes" ∷ [])
    ∷ row ("kind=complete" ∷ "term=tamXCsdec(x0:Msg,x1:Msg)"
    ∷ "member=tamXCsdec(x0:Msg,x1:Msg)"
    ∷ "member=x2:Msg" ∷ "key=x0:Msg" ∷ "value=tamXCsenc(x2:Msg,x3:Msg)" ∷ "key=x1:Msg" ∷ "value=x2:Msg"
    ∷ [])
    ("complete=no" ∷ [])
    ∷ row ("kind=complete" ∷ "term=tamXCkdec(x0:Msg,x1:Msg)"
    ∷ "member=tamXCkdec(x0:Msg,x1:Msg)"
    ∷ "member=x2:Msg" ∷ "key=x0:Msg" ∷ "value=tamXCkem(x2:Msg,tamXCpk(x3:Msg))" ∷ "key=x1:Msg" ∷ "value=x3:Msg"
    ∷ [])
    ("complete=yes" ∷ [])
    ∷ row ("kind=complete" ∷ "term=tamXCkdec(x0:Msg,x1:Msg)"
    ∷ "member=tamXCkdec(x0:Msg,x1:Msg)"
    ∷ "member=x3:Msg" ∷ "key=x0:Msg" ∷ "value=tamXCkem(x2:Msg,tamXCpk(x3:Msg))" ∷ "key=x1:Msg" ∷ "value=x3:Msg"
    ∷ [])
    ("complete=no" ∷ [])
    ∷ []

-- a row with words enough for more colons
abbrev pub wide : List String → List String → Row
wide sheet answer = record { sheet = text sheet; words = 9000000; room = 1000; reply = passed (text answer) }

-- two rules at once, each with fresh variables of its own: the last two members of each row need some that are shared
abbrev pub two_rules : List Row
two_rules =
    wide ("kind=complete" ∷ "term=g(tamXCfst(x0:Msg),tamXCfst(x1:Msg))"
    ∷ "member=g(tamXCfst(x0:Msg),tamXCfst(x1:Msg))"
    ∷ "member=g(x2:Msg,tamXCfst(x1:Msg))" ∷ "key=x0:Msg" ∷ "value=tamXCpair(x2:Msg,x3:Msg)"
    ∷ "member=g(tamXCfst(x0:Msg),x2:Msg)" ∷ "key=x1:Msg" ∷ "value=tamXCpair(x2:Msg,x3:Msg)"
    ∷ "member=g(x2:Msg,x2:Msg)" ∷ "key=x0:Msg" ∷ "value=tamXCpair(x2:Msg,x3:Msg)" ∷ "key=x1:Msg" ∷ "value=tamXCpair(x2:Msg,x3:Msg)"
    ∷ "member=g(x2:Msg,x3:Msg)" ∷ "key=x0:Msg" ∷ "value=tamXCpair(x2:Msg,x3:Msg)" ∷ "key=x1:Msg" ∷ "value=tamXCpair(x3:Msg,x4:Msg)"
    ∷ [])
    ("complete=no" ∷ [])
    ∷ wide ("kind=complete" ∷ "term=g(tamXCsnd(x0:Msg),tamXCfst(x1:Msg))"
    ∷ "member=g(tamXCsnd(x0:Msg),tamXCfst(x1:Msg))"
    ∷ "member=g(x3:Msg,tamXCfst(x1:Msg))" ∷ "key=x0:Msg" ∷ "value=tamXCpair(x2:Msg,x3:Msg)"
    ∷ "member=g(tamXCsnd(x0:Msg),x2:Msg)" ∷ "key=x1:Msg" ∷ "value=tamXCpair(x2:Msg,x3:Msg)"
    ∷ "member=g(x3:Msg,x2:Msg)" ∷ "key=x0:Msg" ∷ "value=tamXCpair(x2:Msg,x3:Msg)" ∷ "key=x1:Msg" ∷ "value=tamXCpair(x2:Msg,x3:Msg)"
    ∷ "member=g(x3:Msg,x3:Msg)" ∷ "key=x0:Msg" ∷ "value=tamXCpair(x2:Msg,x3:Msg)" ∷ "key=x1:Msg" ∷ "value=tamXCpair(x3:Msg,x4:Msg)"
    ∷ [])
    ("complete=no" ∷ [])
    ∷ wide ("kind=complete" ∷ "term=g(tamXCsdec(x0:Msg,x1:Msg),tamXCfst(x2:Msg))"
    ∷ "member=g(tamXCsdec(x0:Msg,x1:Msg),tamXCfst(x2:Msg))"
    ∷ "member=g(x3:Msg,tamXCfst(x2:Msg))" ∷ "key=x0:Msg" ∷ "value=tamXCsenc(x3:Msg,x4:Msg)" ∷ "key=x1:Msg" ∷ "value=x4:Msg"
    ∷ "member=g(tamXCsdec(x0:Msg,x1:Msg),x3:Msg)" ∷ "key=x2:Msg" ∷ "value=tamXCpair(x3:Msg,x4:Msg)"
    ∷ "member=g(x3:Msg,x3:Msg)" ∷ "key=x0:Msg" ∷ "value=tamXCsenc(x3:Msg,x4:Msg)" ∷ "key=x1:Msg" ∷ "value=x4:Msg" ∷ "key=x2:Msg" ∷ "value=tamXCpair(x3:Msg,x4:Msg)"
    ∷ "member=g(x3:Msg,x4:Msg)" ∷ "key=x0:Msg" ∷ "value=tamXCsenc(x3:Msg,x4:Msg)" ∷ "key=x1:Msg" ∷ "value=x4:Msg" ∷ "key=x2:Msg" ∷ "value=tamXCpair(x4:Msg,x5:Msg)"
    ∷ [])
    ("complete=no" ∷ [])
    ∷ wide ("kind=complete" ∷ "term=g(tamXCkdec(x0:Msg,x1:Msg),tamXCfst(x2:Msg))"
    ∷ "member=g(tamXCkdec(x0:Msg,x1:Msg),tamXCfst(x2:Msg))"
    ∷ "member=g(x3:Msg,tamXCfst(x2:Msg))" ∷ "key=x0:Msg" ∷ "value=tamXCkem(x3:Msg,tamXCpk(x4:Msg))" ∷ "key=x1:Msg" ∷ "value=x4:Msg"
    ∷ "member=g(tamXCkdec(x0:Msg,x1:Msg),x3:Msg)" ∷ "key=x2:Msg" ∷ "value=tamXCpair(x3:Msg,x4:Msg)"
    ∷ "member=g(x3:Msg,x3:Msg)" ∷ "key=x0:Msg" ∷ "value=tamXCkem(x3:Msg,tamXCpk(x4:Msg))" ∷ "key=x1:Msg" ∷ "value=x4:Msg" ∷ "key=x2:Msg" ∷ "value=tamXCpair(x3:Msg,x4:Msg)"
    ∷ "member=g(x3:Msg,x4:Msg)" ∷ "key=x0:Msg" ∷ "value=tamXCkem(x3:Msg,tamXCpk(x4:Msg))" ∷ "key=x1:Msg" ∷ "value=x4:Msg" ∷ "key=x2:Msg" ∷ "value=tamXCpair(x4:Msg,x5:Msg)"
    ∷ [])
    ("complete=no" ∷ [])
    ∷ []

-- any application of `tamXCtone` is natural, and a message if its arguments are; the leaf `tamtplus` is natural and a message, and has
-- no summands
abbrev pub unranked : List Row
unranked =
    row ("kind=unify" ∷ "fuel=9" ∷ "left=x0:TamNat" ∷ "right=tamXCtone(n(0))" ∷ [])
    ("verdict=solved" ∷ "spent=1" ∷ "key=x0:TamNat" ∷ "value=tamXCtone(n(0))" ∷ [])
    ∷ row ("kind=unify" ∷ "fuel=9" ∷ "left=x0:Msg" ∷ "right=tamXCtone(n(0))" ∷ [])
    ("verdict=failed" ∷ "spent=1" ∷ [])
    ∷ row ("kind=unify" ∷ "fuel=9" ∷ "left=x0:Msg" ∷ "right=tamXCtone(c(0))" ∷ [])
    ("verdict=solved" ∷ "spent=1" ∷ "key=x0:Msg" ∷ "value=tamXCtone(c(0))" ∷ [])
    ∷ row ("kind=unify" ∷ "fuel=9" ∷ "left=x0:TamNat" ∷ "right=tamtplus" ∷ [])
    ("verdict=solved" ∷ "spent=1" ∷ "key=x0:TamNat" ∷ "value=tamtplus" ∷ [])
    ∷ row ("kind=unify" ∷ "fuel=9" ∷ "left=x0:Msg" ∷ "right=tamtplus" ∷ [])
    ("verdict=solved" ∷ "spent=1" ∷ "key=x0:Msg" ∷ "value=tamtplus" ∷ [])
    ∷ row ("kind=unify" ∷ "fuel=9" ∷ "left=x0:Msg" ∷ "right=tamtplus(tamXCtone(n(0)),tamtplus)" ∷ [])
    ("verdict=solved" ∷ "spent=1" ∷ "key=x0:Msg" ∷ "value=tamtplus(tamXCtone(n(0)),tamtplus)" ∷ [])
    ∷ row ("kind=unify" ∷ "fuel=9" ∷ "left=tamtplus(tamtplus,x0:TamNat)" ∷ "right=tamtplus(t(0),t(1))" ∷ [])
    ("verdict=solved" ∷ "spent=2" ∷ "key=x0:TamNat" ∷ "value=tamtplus(t(0),t(1))" ∷ [])
    ∷ row ("kind=unify" ∷ "fuel=9" ∷ "left=tamtplus(tamXCtone(c(0)),x0:TamNat)" ∷ "right=tamtplus(x1:TamNat,x2:TamNat)" ∷ [])
    ("verdict=failed" ∷ "spent=1" ∷ [])
    ∷ []

-- variables of sort Fresh and Node
abbrev pub fresh_and_node : List Row
fresh_and_node =
    row ("kind=unify" ∷ "fuel=9" ∷ "left=x0:Fresh" ∷ "right=f(0)" ∷ [])
    ("verdict=solved" ∷ "spent=1" ∷ "key=x0:Fresh" ∷ "value=f(0)" ∷ [])
    ∷ row ("kind=unify" ∷ "fuel=9" ∷ "left=x0:Fresh" ∷ "right=p(0)" ∷ [])
    ("verdict=failed" ∷ "spent=1" ∷ [])
    ∷ row ("kind=unify" ∷ "fuel=9" ∷ "left=x0:Node" ∷ "right=n(0)" ∷ [])
    ("verdict=solved" ∷ "spent=1" ∷ "key=x0:Node" ∷ "value=n(0)" ∷ [])
    ∷ row ("kind=unify" ∷ "fuel=9" ∷ "left=x0:Node" ∷ "right=f(0)" ∷ [])
    ("verdict=failed" ∷ "spent=1" ∷ [])
    ∷ row ("kind=unify" ∷ "fuel=9" ∷ "left=x0:Msg" ∷ "right=x1:Fresh" ∷ [])
    ("verdict=solved" ∷ "spent=1" ∷ "key=x0:Msg" ∷ "value=x1:Fresh" ∷ [])
    ∷ row ("kind=unify" ∷ "fuel=9" ∷ "left=x0:Msg" ∷ "right=x1:Node" ∷ [])
    ("verdict=failed" ∷ "spent=1" ∷ [])
    ∷ []

-- which variables of a term `complete` has an index for: `x`, no leading zero, below 2^63
abbrev pub indices : List Row
indices =
    row ("kind=complete" ∷ "term=x9223372036854775807:Msg" ∷ "member=x9223372036854775807:Msg" ∷ []) ("complete=yes" ∷ [])
    ∷ row ("kind=complete" ∷ "term=x9223372036854775808:Msg" ∷ "member=x9223372036854775808:Msg" ∷ []) ("complete=none" ∷ [])
    ∷ row ("kind=complete" ∷ "term=x4294967296:Msg" ∷ "member=x4294967296:Msg" ∷ []) ("complete=yes" ∷ [])
    ∷ row ("kind=complete" ∷ "term=x00:Msg" ∷ "member=x00:Msg" ∷ []) ("complete=none" ∷ [])
    ∷ row ("kind=complete" ∷ "term=#0:Msg" ∷ "member=#0:Msg" ∷ []) ("complete=none" ∷ [])
    ∷ row ("kind=complete" ∷ "term=%0:Msg" ∷ "member=%0:Msg" ∷ []) ("complete=none" ∷ [])
    ∷ []

-- an application of `tamXCtone` that is no message, but has an instance that is one
abbrev pub tone_sums : List Row
tone_sums =
    row ("kind=unify" ∷ "fuel=9" ∷ "left=x0:Msg" ∷ "right=tamXCtone(tamtplus(x1:Msg,t(0)))" ∷ [])
    ("verdict=unsupported" ∷ "spent=1" ∷ [])
    ∷ []

-- two bindings of `match`, the newest first
abbrev pub two_bindings : List Row
two_bindings =
    row ("kind=match" ∷ "fuel=9" ∷ "left=x0:Msg" ∷ "right=a" ∷ "left=x1:Msg" ∷ "right=b" ∷ [])
    ("verdict=solved" ∷ "spent=2" ∷ "key=x1:Msg" ∷ "value=b" ∷ "key=x0:Msg" ∷ "value=a" ∷ [])
    ∷ row ("kind=match" ∷ "fuel=9" ∷ "left=g(x1:Msg,x0:Msg)" ∷ "right=g(a,b)" ∷ [])
    ("verdict=solved" ∷ "spent=3" ∷ "key=x0:Msg" ∷ "value=b" ∷ "key=x1:Msg" ∷ "value=a" ∷ [])
    ∷ []

-- pattern summands that are applications without variables, which cancel, and one with a variable, which does not
abbrev pub ground_sums : List Row
ground_sums =
    row ("kind=match" ∷ "fuel=9" ∷ "left=tamtplus(x0:Msg,g(c(0)))" ∷ "right=tamtplus(t(1),g(c(0)))" ∷ [])
    ("verdict=solved" ∷ "spent=2" ∷ "key=x0:Msg" ∷ "value=t(1)" ∷ [])
    ∷ row ("kind=match" ∷ "fuel=9" ∷ "left=tamtplus(x0:TamNat,g(x1:Msg))" ∷ "right=tamtplus(t(1),g(c(0)))" ∷ [])
    ("verdict=unsupported" ∷ "spent=1" ∷ [])
    ∷ []
