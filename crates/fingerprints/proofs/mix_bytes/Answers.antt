use Rattle.std.proofs.Common.{◌≡◌, subst, rules}
use Rattle.std.proofs.lemmas.Fn.{fold_over, slice_gives, fronts}
use Rattle.fingerprints.specs.Fingerprints.{mixed}
use Rattle.fingerprints.proofs.Fingerprinting.{mixed_none, mixed_push}
use Rattle.fingerprints.proofs.mix_bytes.Goals as goal

pub returns : goal.returns
returns c =
    let h = c.args.h in
    subst (λ l. c.fold.result ≡ mixed h l) c.iter.ensures.rest
    (fold_over fronts (λ y. y.now) _ (λ ys n. n ≡ mixed h ys) _ (λ ys a x b f' j k. let more = mixed_push h ys x.now in search rules)
    _ _ _ _ (slice_gives c.iter.result) (mixed_none h) c.fold.ensures.ran)
