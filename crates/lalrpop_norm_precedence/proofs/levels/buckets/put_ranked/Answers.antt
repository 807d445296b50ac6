use Rattle.lalrpop_norm_precedence.proofs.BucketLemmas.{put_in_bucket}
use Rattle.lalrpop_norm_precedence.proofs.levels.buckets.put_ranked.Goals as goal

pub returns : goal.returns
returns c = λ j.
    put_in_bucket c.args.buckets.now c.take_bucket-bucket.new.buckets c.insert.new.self c.args.ranked c.take_bucket-bucket.result
    c.push.new.self c.take_bucket-bucket.ensures.value c.take_bucket-bucket.ensures.rest c.in_ok-push.ensures.ok
    c.in_ok-insert.ensures.updates j
