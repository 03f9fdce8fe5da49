-- The functions of `record`, `path` and `lists` leave one outcome. Assumes nothing.
use mathlib.Core.Path.{refl}
use Rattle.record.specs.Standing.{rule_for}
use Rattle.unique.specs.One.{Determines}
use Rattle.unique.proofs.OneLaws.{one-answer}
use Rattle.record.proofs.Stamp.is_known.Kinds as is-known-kinds
use Rattle.record.proofs.Stamp.is_known.Reads as is-known
use Rattle.record.proofs.Record.proper.Kinds as proper-kinds
use Rattle.record.proofs.Record.proper.Reads as proper
use Rattle.record.proofs.Record.same.Kinds as same-kinds
use Rattle.record.proofs.Record.same.Reads as same
use Rattle.record.proofs.Record.is_dummy.Kinds as is-dummy-kinds
use Rattle.record.proofs.Record.is_dummy.Reads as is-dummy
use Rattle.record.proofs.Record.is_proper.Kinds as is-proper-kinds
use Rattle.record.proofs.Record.is_proper.Reads as is-proper
use Rattle.record.proofs.Record.may_stand.Kinds as may-stand-kinds
use Rattle.record.proofs.Record.may_stand.Reads as may-stand
use Rattle.record.proofs.Record.no_later.Kinds as no-later-kinds
use Rattle.record.proofs.Record.no_later.Reads as no-later
use Rattle.record.proofs.Record.smaller.Kinds as smaller-kinds
use Rattle.record.proofs.Record.smaller.Reads as smaller
use Rattle.record.proofs.Record.read.Kinds as read-kinds
use Rattle.record.proofs.Record.read.Reads as read
use Rattle.record.proofs.Record.write.Kinds as write-kinds
use Rattle.record.proofs.Record.write.Reads as write
use Rattle.record.proofs.copy_words.Kinds as copy-words-kinds
use Rattle.record.proofs.copy_words.Reads as copy-words
use Rattle.path.proofs.leaves.Kinds as leaves-kinds
use Rattle.path.proofs.leaves.Reads as leaves
use Rattle.path.proofs.bucket_words.Kinds as bucket-words-kinds
use Rattle.path.proofs.bucket_words.Reads as bucket-words
use Rattle.path.proofs.tree_in_range.Kinds as tree-in-range-kinds
use Rattle.path.proofs.tree_in_range.Reads as tree-in-range
use Rattle.path.proofs.sizes.Sizes.in_range.Kinds as in-range-kinds
use Rattle.path.proofs.sizes.Sizes.in_range.Reads as in-range
use Rattle.path.proofs.sibling.Kinds as sibling-kinds
use Rattle.path.proofs.sibling.Reads as sibling
use Rattle.path.proofs.sizes.Sizes.bucket_at.Kinds as bucket-at-kinds
use Rattle.path.proofs.sizes.Sizes.bucket_at.Reads as bucket-at
use Rattle.path.proofs.sizes.Sizes.holds.Kinds as holds-kinds
use Rattle.path.proofs.sizes.Sizes.holds.Reads as holds
use Rattle.lists.proofs.pair_counts.Kinds as pair-counts-kinds
use Rattle.lists.proofs.pair_counts.Reads as pair-counts
use Rattle.lists.proofs.path_counts.Kinds as path-counts-kinds
use Rattle.lists.proofs.path_counts.Reads as path-counts
use Rattle.lists.proofs.list_pair.Kinds as list-pair-kinds
use Rattle.lists.proofs.list_pair.Reads as list-pair
use Rattle.lists.proofs.list_path.Kinds as list-path-kinds
use Rattle.lists.proofs.list_path.Reads as list-path
use Rattle.lists.proofs.Listed.words_moved.Kinds as words-moved-kinds
use Rattle.lists.proofs.Listed.words_moved.Reads as words-moved

pub one-is-known : Determines 0 is-known-kinds.ps is-known-kinds.r is-known.Asked is-known.Learnt
one-is-known =
    one-answer 0 is-known-kinds.ps is-known-kinds.r is-known.Asked is-known.Learnt _ _
    (λ κs a ok x xs f p. (p, refl))

pub one-proper : Determines 0 proper-kinds.ps proper-kinds.r proper.Asked proper.Learnt
one-proper =
    one-answer 0 proper-kinds.ps proper-kinds.r proper.Asked proper.Learnt _ _
    (λ κs a ok x xs f p. (p, refl))

pub one-same : Determines 0 same-kinds.ps same-kinds.r same.Asked same.Learnt
one-same =
    one-answer 0 same-kinds.ps same-kinds.r same.Asked same.Learnt _ _
    (λ κs a ok x xs f p. (p, refl))

pub one-is-dummy : Determines 0 is-dummy-kinds.ps is-dummy-kinds.r is-dummy.Asked is-dummy.Learnt
one-is-dummy =
    one-answer 0 is-dummy-kinds.ps is-dummy-kinds.r is-dummy.Asked is-dummy.Learnt _ _
    (λ κs a ok x xs f p. (p, refl))

pub one-is-proper : Determines 0 is-proper-kinds.ps is-proper-kinds.r is-proper.Asked is-proper.Learnt
one-is-proper =
    one-answer 0 is-proper-kinds.ps is-proper-kinds.r is-proper.Asked is-proper.Learnt _ _
    (λ κs a ok x xs f p. (p, refl))

pub one-may-stand : Determines 0 may-stand-kinds.ps may-stand-kinds.r may-stand.Asked may-stand.Learnt
one-may-stand =
    one-answer 0 may-stand-kinds.ps may-stand-kinds.r may-stand.Asked may-stand.Learnt _ _
    (λ κs a ok x xs f p. (p, refl))

pub one-no-later : Determines 0 no-later-kinds.ps no-later-kinds.r no-later.Asked no-later.Learnt
one-no-later =
    one-answer 0 no-later-kinds.ps no-later-kinds.r no-later.Asked no-later.Learnt _ _
    (λ κs a ok x xs f p. (p (rule_for 0 0), refl))

pub one-smaller : Determines 0 smaller-kinds.ps smaller-kinds.r smaller.Asked smaller.Learnt
one-smaller =
    one-answer 0 smaller-kinds.ps smaller-kinds.r smaller.Asked smaller.Learnt _ _
    (λ κs a ok x xs f p. (p (rule_for 0 0), refl))

pub one-read : Determines 1 read-kinds.ps read-kinds.r read.Asked read.Learnt
one-read =
    one-answer 1 read-kinds.ps read-kinds.r read.Asked read.Learnt _ _
    (λ κs a ok x xs f p. (p, refl))

pub one-write : Determines 1 write-kinds.ps write-kinds.r write.Asked write.Learnt
one-write =
    one-answer 1 write-kinds.ps write-kinds.r write.Asked write.Learnt _ _
    (λ κs a ok x xs f p. (refl, λ i. (tt, (p i, (tt, tt)))))

pub one-copy-words : Determines 2 copy-words-kinds.ps copy-words-kinds.r copy-words.Asked copy-words.Learnt
one-copy-words =
    one-answer 2 copy-words-kinds.ps copy-words-kinds.r copy-words.Asked copy-words.Learnt _ _
    (λ κs a ok x xs f p. (refl, λ i. (p i, (tt, (tt, (tt, (tt, tt)))))))

pub one-leaves : Determines 0 leaves-kinds.ps leaves-kinds.r leaves.Asked leaves.Learnt
one-leaves =
    one-answer 0 leaves-kinds.ps leaves-kinds.r leaves.Asked leaves.Learnt _ _
    (λ κs a ok x xs f p. (p, refl))

pub one-bucket-words : Determines 0 bucket-words-kinds.ps bucket-words-kinds.r bucket-words.Asked bucket-words.Learnt
one-bucket-words =
    one-answer 0 bucket-words-kinds.ps bucket-words-kinds.r bucket-words.Asked bucket-words.Learnt _ _
    (λ κs a ok x xs f p. (p, refl))

pub one-tree-in-range : Determines 0 tree-in-range-kinds.ps tree-in-range-kinds.r tree-in-range.Asked tree-in-range.Learnt
one-tree-in-range =
    one-answer 0 tree-in-range-kinds.ps tree-in-range-kinds.r tree-in-range.Asked tree-in-range.Learnt _ _
    (λ κs a ok x xs f p. (p, refl))

pub one-in-range : Determines 0 in-range-kinds.ps in-range-kinds.r in-range.Asked in-range.Learnt
one-in-range =
    one-answer 0 in-range-kinds.ps in-range-kinds.r in-range.Asked in-range.Learnt _ _
    (λ κs a ok x xs f p. (p, refl))

pub one-sibling : Determines 0 sibling-kinds.ps sibling-kinds.r sibling.Asked sibling.Learnt
one-sibling =
    one-answer 0 sibling-kinds.ps sibling-kinds.r sibling.Asked sibling.Learnt _ _
    (λ κs a ok x xs f p. (p, refl))

pub one-bucket-at : Determines 0 bucket-at-kinds.ps bucket-at-kinds.r bucket-at.Asked bucket-at.Learnt
one-bucket-at =
    one-answer 0 bucket-at-kinds.ps bucket-at-kinds.r bucket-at.Asked bucket-at.Learnt _ _
    (λ κs a ok x xs f p. (p, refl))

pub one-holds : Determines 0 holds-kinds.ps holds-kinds.r holds.Asked holds.Learnt
one-holds =
    one-answer 0 holds-kinds.ps holds-kinds.r holds.Asked holds.Learnt _ _
    (λ κs a ok x xs f p. (p, refl))

pub one-pair-counts : Determines 0 pair-counts-kinds.ps pair-counts-kinds.r pair-counts.Asked pair-counts.Learnt
one-pair-counts =
    one-answer 0 pair-counts-kinds.ps pair-counts-kinds.r pair-counts.Asked pair-counts.Learnt _ _
    (λ κs a ok x xs f p. (p, refl))

pub one-path-counts : Determines 0 path-counts-kinds.ps path-counts-kinds.r path-counts.Asked path-counts.Learnt
one-path-counts =
    one-answer 0 path-counts-kinds.ps path-counts-kinds.r path-counts.Asked path-counts.Learnt _ _
    (λ κs a ok x xs f p. (p, refl))

pub one-list-pair : Determines 1 list-pair-kinds.ps list-pair-kinds.r list-pair.Asked list-pair.Learnt
one-list-pair =
    one-answer 1 list-pair-kinds.ps list-pair-kinds.r list-pair.Asked list-pair.Learnt _ _
    (λ κs a ok x xs f p. (p.counted, λ i. (tt, (tt, (tt, (p.places i, tt))))))

pub one-list-path : Determines 1 list-path-kinds.ps list-path-kinds.r list-path.Asked list-path.Learnt
one-list-path =
    one-answer 1 list-path-kinds.ps list-path-kinds.r list-path.Asked list-path.Learnt _ _
    (λ κs a ok x xs f p. (p.counted, λ i. (tt, (tt, (p.places i, tt)))))

pub one-words-moved : Determines 0 words-moved-kinds.ps words-moved-kinds.r words-moved.Asked words-moved.Learnt
one-words-moved =
    one-answer 0 words-moved-kinds.ps words-moved-kinds.r words-moved.Asked words-moved.Learnt _ _
    (λ κs a ok x xs f p. (p, refl))
