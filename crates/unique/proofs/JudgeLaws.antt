-- The judgements on a request, a card and what was fetched, and a finish on the parts of a card, leave one outcome.
-- Assumes nothing.
use mathlib.Core.Path.{refl, ◌∙◌}
use Rattle.record.specs.Standing.{rule_for}
use Rattle.refusal.specs.Reason.{refusal_in}
use Rattle.refusal.proofs.ReasonLaws.{one-outcome}
use Rattle.unique.specs.One.{Determines}
use Rattle.unique.proofs.OneLaws.{one-answer, one-known}
use Rattle.unique.proofs.ScratchLaws.{full-words}
use Rattle.parts.proofs.Parts.rule.Kinds as rule-kinds
use Rattle.parts.proofs.Parts.rule.Reads as rule
use Rattle.request.proofs.is_waiting.Kinds as is-waiting-kinds
use Rattle.request.proofs.is_waiting.Reads as is-waiting
use Rattle.request.proofs.why_request.Kinds as why-request-kinds
use Rattle.request.proofs.why_request.Reads as why-request
use Rattle.request.proofs.why_waiting.Kinds as why-waiting-kinds
use Rattle.request.proofs.why_waiting.Reads as why-waiting
use Rattle.request.proofs.job_of.Kinds as job-of-kinds
use Rattle.request.proofs.job_of.Reads as job-of
use Rattle.listing.proofs.list_for.Kinds as list-for-kinds
use Rattle.listing.proofs.list_for.Reads as list-for
use Rattle.listing.proofs.is_list_longer.Kinds as is-list-longer-kinds
use Rattle.listing.proofs.is_list_longer.Reads as is-list-longer
use Rattle.listing.proofs.are_words_more.Kinds as are-words-more-kinds
use Rattle.listing.proofs.are_words_more.Reads as are-words-more
use Rattle.root.proofs.slots_fine.Kinds as slots-fine-kinds
use Rattle.root.proofs.slots_fine.Reads as slots-fine
use Rattle.root.proofs.all_dummies.Kinds as all-dummies-kinds
use Rattle.root.proofs.all_dummies.Reads as all-dummies
use Rattle.root.proofs.lowest_dummy.Kinds as lowest-dummy-kinds
use Rattle.root.proofs.lowest_dummy.Reads as lowest-dummy
use Rattle.root.proofs.all_real.Kinds as all-real-kinds
use Rattle.root.proofs.all_real.Reads as all-real
use Rattle.judge.proofs.are_parts_bad.Kinds as are-parts-bad-kinds
use Rattle.judge.proofs.are_parts_bad.Reads as are-parts-bad
use Rattle.sound.proofs.all_sound.Kinds as all-sound-kinds
use Rattle.sound.proofs.all_sound.Reads as all-sound
use Rattle.truth.proofs.leasts_true.Kinds as leasts-true-kinds
use Rattle.truth.proofs.leasts_true.Reads as leasts-true
use Rattle.checks.proofs.why.Kinds as why-kinds
use Rattle.checks.proofs.why.Reads as why
use Rattle.damage.proofs.path_damaged.Kinds as path-damaged-kinds
use Rattle.damage.proofs.path_damaged.Reads as path-damaged
use Rattle.damage.proofs.pair_damaged.Kinds as pair-damaged-kinds
use Rattle.damage.proofs.pair_damaged.Reads as pair-damaged
use Rattle.settle.proofs.way_words.Kinds as way-words-kinds
use Rattle.settle.proofs.way_words.Reads as way-words
use Rattle.settle.proofs.path_words.Kinds as path-words-kinds
use Rattle.settle.proofs.path_words.Reads as path-words
use Rattle.settle.proofs.judged.Kinds as judged-kinds
use Rattle.settle.proofs.judged.Reads as judged
use Rattle.look.proofs.look_path.Kinds as look-path-kinds
use Rattle.look.proofs.look_path.Reads as look-path
use Rattle.look.proofs.look_pair.Kinds as look-pair-kinds
use Rattle.look.proofs.look_pair.Reads as look-pair
use Rattle.prepare.proofs.prepare_insertion.Kinds as prepare-insertion-kinds
use Rattle.prepare.proofs.prepare_insertion.Reads as prepare-insertion
use Rattle.removal.proofs.settle_removal.Kinds as settle-removal-kinds
use Rattle.removal.proofs.settle_removal.Reads as settle-removal
use Rattle.insertion.proofs.settle_insertion.Kinds as settle-insertion-kinds
use Rattle.insertion.proofs.settle_insertion.Reads as settle-insertion
use Rattle.finishes.proofs.settle_job.Kinds as settle-job-kinds
use Rattle.finishes.proofs.settle_job.Reads as settle-job

pub one-rule : Determines 0 rule-kinds.ps rule-kinds.r rule.Asked rule.Learnt
one-rule =
    one-answer 0 rule-kinds.ps rule-kinds.r rule.Asked rule.Learnt _ _
    (λ κs a ok x xs f p. (p, refl))

pub one-is-waiting : Determines 0 is-waiting-kinds.ps is-waiting-kinds.r is-waiting.Asked is-waiting.Learnt
one-is-waiting =
    one-answer 0 is-waiting-kinds.ps is-waiting-kinds.r is-waiting.Asked is-waiting.Learnt _ _
    (λ κs a ok x xs f p. (p, refl))

pub one-why-request : Determines 1 why-request-kinds.ps why-request-kinds.r why-request.Asked why-request.Learnt
one-why-request =
    one-known 1 why-request-kinds.ps why-request-kinds.r why-request.Asked why-request.Learnt (λ κs. refusal_in) _ _ (λ κs. one-outcome)
    (λ κs a ok x xs f p. (p, refl))

pub one-why-waiting : Determines 1 why-waiting-kinds.ps why-waiting-kinds.r why-waiting.Asked why-waiting.Learnt
one-why-waiting =
    one-known 1 why-waiting-kinds.ps why-waiting-kinds.r why-waiting.Asked why-waiting.Learnt (λ κs. refusal_in) _ _ (λ κs. one-outcome)
    (λ κs a ok x xs f p. (p, refl))

pub one-job-of : Determines 0 job-of-kinds.ps job-of-kinds.r job-of.Asked job-of.Learnt
one-job-of =
    one-answer 0 job-of-kinds.ps job-of-kinds.r job-of.Asked job-of.Learnt _ _
    (λ κs a ok x xs f p. (p, refl))

pub one-list-for : Determines 1 list-for-kinds.ps list-for-kinds.r list-for.Asked list-for.Learnt
one-list-for =
    one-answer 1 list-for-kinds.ps list-for-kinds.r list-for.Asked list-for.Learnt _ _
    (λ κs a ok x xs f p. (p.counted, λ i. (tt, (tt, (p.places i, tt)))))

pub one-is-list-longer : Determines 0 is-list-longer-kinds.ps is-list-longer-kinds.r is-list-longer.Asked is-list-longer.Learnt
one-is-list-longer =
    one-answer 0 is-list-longer-kinds.ps is-list-longer-kinds.r is-list-longer.Asked is-list-longer.Learnt _ _
    (λ κs a ok x xs f p. (p, refl))

pub one-are-words-more : Determines 0 are-words-more-kinds.ps are-words-more-kinds.r are-words-more.Asked are-words-more.Learnt
one-are-words-more =
    one-answer 0 are-words-more-kinds.ps are-words-more-kinds.r are-words-more.Asked are-words-more.Learnt _ _
    (λ κs a ok x xs f p. (p, refl))

pub one-slots-fine : Determines 1 slots-fine-kinds.ps slots-fine-kinds.r slots-fine.Asked slots-fine.Learnt
one-slots-fine =
    one-answer 1 slots-fine-kinds.ps slots-fine-kinds.r slots-fine.Asked slots-fine.Learnt _ _
    (λ κs a ok x xs f p. (p, refl))

pub one-all-dummies : Determines 1 all-dummies-kinds.ps all-dummies-kinds.r all-dummies.Asked all-dummies.Learnt
one-all-dummies =
    one-answer 1 all-dummies-kinds.ps all-dummies-kinds.r all-dummies.Asked all-dummies.Learnt _ _
    (λ κs a ok x xs f p. (p, refl))

pub one-lowest-dummy : Determines 1 lowest-dummy-kinds.ps lowest-dummy-kinds.r lowest-dummy.Asked lowest-dummy.Learnt
one-lowest-dummy =
    one-answer 1 lowest-dummy-kinds.ps lowest-dummy-kinds.r lowest-dummy.Asked lowest-dummy.Learnt _ _
    (λ κs a ok x xs f p. (p, refl))

pub one-all-real : Determines 1 all-real-kinds.ps all-real-kinds.r all-real.Asked all-real.Learnt
one-all-real =
    one-answer 1 all-real-kinds.ps all-real-kinds.r all-real.Asked all-real.Learnt _ _
    (λ κs a ok x xs f p. (p, refl))

pub one-are-parts-bad : Determines 1 are-parts-bad-kinds.ps are-parts-bad-kinds.r are-parts-bad.Asked are-parts-bad.Learnt
one-are-parts-bad =
    one-answer 1 are-parts-bad-kinds.ps are-parts-bad-kinds.r are-parts-bad.Asked are-parts-bad.Learnt _ _
    (λ κs a ok x xs f p. (p, refl))

pub one-all-sound : Determines 2 all-sound-kinds.ps all-sound-kinds.r all-sound.Asked all-sound.Learnt
one-all-sound =
    one-answer 2 all-sound-kinds.ps all-sound-kinds.r all-sound.Asked all-sound.Learnt _ _
    (λ κs a ok x xs f p. (p, refl))

pub one-leasts-true : Determines 2 leasts-true-kinds.ps leasts-true-kinds.r leasts-true.Asked leasts-true.Learnt
one-leasts-true =
    one-answer 2 leasts-true-kinds.ps leasts-true-kinds.r leasts-true.Asked leasts-true.Learnt _ _
    (λ κs a ok x xs f p. (p (rule_for 0 0), refl))

pub one-why : Determines 0 why-kinds.ps why-kinds.r why.Asked why.Learnt
one-why =
    one-known 0 why-kinds.ps why-kinds.r why.Asked why.Learnt (λ κs. refusal_in) _ _ (λ κs. one-outcome)
    (λ κs a ok x xs f p. (p, refl))

pub one-path-damaged : Determines 3 path-damaged-kinds.ps path-damaged-kinds.r path-damaged.Asked path-damaged.Learnt
one-path-damaged =
    one-answer 3 path-damaged-kinds.ps path-damaged-kinds.r path-damaged.Asked path-damaged.Learnt _ _
    (λ κs a ok x xs f p. (p, refl))

pub one-pair-damaged : Determines 5 pair-damaged-kinds.ps pair-damaged-kinds.r pair-damaged.Asked pair-damaged.Learnt
one-pair-damaged =
    one-answer 5 pair-damaged-kinds.ps pair-damaged-kinds.r pair-damaged.Asked pair-damaged.Learnt _ _
    (λ κs a ok x xs f p. (p, refl))

pub one-way-words : Determines 0 way-words-kinds.ps way-words-kinds.r way-words.Asked way-words.Learnt
one-way-words =
    one-answer 0 way-words-kinds.ps way-words-kinds.r way-words.Asked way-words.Learnt _ _
    (λ κs a ok x xs f p. (p.0, refl))

pub one-path-words : Determines 0 path-words-kinds.ps path-words-kinds.r path-words.Asked path-words.Learnt
one-path-words =
    one-answer 0 path-words-kinds.ps path-words-kinds.r path-words.Asked path-words.Learnt _ _
    (λ κs a ok x xs f p. (p.0, refl))

pub one-judged : Determines 0 judged-kinds.ps judged-kinds.r judged.Asked judged.Learnt
one-judged =
    one-answer 0 judged-kinds.ps judged-kinds.r judged.Asked judged.Learnt _ _
    (λ κs a ok x xs f p. (p, refl))

pub one-look-path : Determines 3 look-path-kinds.ps look-path-kinds.r look-path.Asked look-path.Learnt
one-look-path =
    one-answer 3 look-path-kinds.ps look-path-kinds.r look-path.Asked look-path.Learnt _ _
    (λ κs a ok x xs f p. (λ i. record { moved = p.counted i; fit = p.verdict i }, λ i. (tt, (full-words _ _ _ (f.1.0 ∙ ok.slots) p.way i, (full-words _ _ _ (f.1.1.0 ∙ ok.siblings) p.siblings i, (tt, (tt, (tt, tt))))))))

pub one-look-pair : Determines 3 look-pair-kinds.ps look-pair-kinds.r look-pair.Asked look-pair.Learnt
one-look-pair =
    one-answer 3 look-pair-kinds.ps look-pair-kinds.r look-pair.Asked look-pair.Learnt _ _
    (λ κs a ok x xs f p. (λ i. record { moved = p.counted i; fit = p.verdict i }, λ i. (tt, (full-words _ _ _ (f.1.0 ∙ ok.slots) p.way i, (full-words _ _ _ (f.1.1.0 ∙ ok.siblings) p.siblings i, (tt, (tt, (tt, (tt, tt)))))))))

pub one-prepare-insertion : Determines 3 prepare-insertion-kinds.ps prepare-insertion-kinds.r prepare-insertion.Asked prepare-insertion.Learnt
one-prepare-insertion =
    one-answer 3 prepare-insertion-kinds.ps prepare-insertion-kinds.r prepare-insertion.Asked prepare-insertion.Learnt _ _
    (λ κs a ok x xs f p. (p.whole, λ i. (tt, (p.lower i, (p.upper i, (tt, (tt, (tt, (tt, (tt, tt))))))))))

pub one-settle-removal : Determines 1 settle-removal-kinds.ps settle-removal-kinds.r settle-removal.Asked settle-removal.Learnt
one-settle-removal =
    one-answer 1 settle-removal-kinds.ps settle-removal-kinds.r settle-removal.Asked settle-removal.Learnt _ _
    (λ κs a ok x xs f p. (p.whole, λ i. (p.words i, (tt, (tt, (tt, (tt, (tt, tt))))))))

pub one-settle-insertion : Determines 1 settle-insertion-kinds.ps settle-insertion-kinds.r settle-insertion.Asked settle-insertion.Learnt
one-settle-insertion =
    one-answer 1 settle-insertion-kinds.ps settle-insertion-kinds.r settle-insertion.Asked settle-insertion.Learnt _ _
    (λ κs a ok x xs f p. (p.whole, λ i. (p.words i, (tt, (tt, (tt, (tt, (tt, tt))))))))

pub one-settle-job : Determines 1 settle-job-kinds.ps settle-job-kinds.r settle-job.Asked settle-job.Learnt
one-settle-job =
    one-answer 1 settle-job-kinds.ps settle-job-kinds.r settle-job.Asked settle-job.Learnt _ _
    (λ κs a ok x xs f p. (p.whole, λ i. (p.words i, (tt, (tt, (tt, tt))))))
