use Rattle.std.proofs.Common.{rules, true, false, ◌≡◌, ◌+◌, ◌<◌, length}
use native.Mathlib.Omega.{arith}
use Rattle.std.proofs.lemmas.Iterator.{YieldsList-from_slice, IsFirst-from_position}
use Rattle.std.proofs.lemmas.Iterator.Adapters.{serves_from_places}
use Rattle.std.proofs.lemmas.Iterator.Consumers.{YieldsList-at, YieldsList-from_enumerate}
use Rattle.sums.specs.Summands.{TextFits}
use Rattle.sums.proofs.Labelling.{one_told, texts_differ}
use lib.ListN.{get_or}
use Rattle.sums.proofs.Removing.{item_place, marks_of, marks_count, Partner, Other, finds_partner}
use Rattle.sums.proofs.texts.find.Goals as goal

pub position-requires-clause-callable : goal.position-requires-clause-callable
position-requires-clause-callable c =
    let a = c.args in
    let p = c.requires.text.0 in
    let ms = marks_of a.texts.words.now a.first (length a.rights.now) in
    let n = marks_count a.texts.words.now a.first (length a.rights.now) c.requires.marks in
    serves_from_places (YieldsList-from_enumerate (YieldsList-at c.enumerate.ensures.source (YieldsList-from_slice ms c.iter.ensures.rest)) c.enumerate.ensures.count) (λ x q h. search rules) (λ x k l e.
    let i = item_place ms k x.0 x.1.now l e in
    let m : x.0 < length a.rights.now = omega (arith, i.0, n) in
    let q : (get_or a.rights.now x.0 0 ≡ 0 → ⊥) → TextFits a.area.now.sheet.now a.texts.starts.now a.texts.words.now (a.first + x.0) = λ z. (c.requires.texts x.0 m (omega arith)).0 in
    (omega (arith, m, c.requires.marks, c.ranges.texts), search m, omega (arith, m, c.requires.marks, c.ranges.texts), search (p, q)))

pub returns : goal.returns
returns c =
    let a = c.args in
    let s = a.area.now.sheet.now in
    let starts = a.texts.starts.now in
    let words = a.texts.words.now in
    let cs = a.rights.now in
    let ms = marks_of words a.first (length cs) in
    λ t u. finds_partner a.area.now t a.p cs a.first c.requires.marks u c.requires.texts c.position.result
    (IsFirst-from_position _ _ c.position.result (Partner s starts words cs a.p a.first) (Other s starts words cs a.p a.first) c.position.ensures.ran (YieldsList-from_enumerate (YieldsList-at c.enumerate.ensures.source (YieldsList-from_slice ms c.iter.ensures.rest)) c.enumerate.ensures.count) (λ x q h. (search rules, λ t u k l. search (rules, one_told {r = true} k l))) (λ x q h. (search rules, λ e m t u k l. search (rules, e, texts_differ k l, one_told {r = false} k l))))
