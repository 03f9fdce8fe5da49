-- The functions on scratches leave one outcome: the answer, and every word of each scratch. A scratch as long as a number of
-- records is known by these. Assumes nothing.
use Prim.Native.Nat.{ℕ, ◌*◌}
use mathlib.Core.List.{List}
use mathlib.Core.Path.{◌≡◌, refl, sym, ◌∙◌, ap}
use lib.ListN.{length}
use Rattle.record.specs.declared.Record.{Record}
use Rattle.record.specs.Standing.{rule_for}
use Rattle.record.specs.Words.{records, words_of}
use Rattle.record.proofs.WordsLaws.{words-records}
use Rattle.unique.specs.One.{Determines}
use Rattle.unique.proofs.OneLaws.{one-answer}
use Rattle.way.proofs.evict.Kinds as evict-kinds
use Rattle.way.proofs.evict.Reads as evict
use Rattle.least.proofs.least_over.Kinds as least-over-kinds
use Rattle.least.proofs.least_over.Reads as least-over
use Rattle.least.proofs.kids_least.Kinds as kids-least-kinds
use Rattle.least.proofs.kids_least.Reads as kids-least
use Rattle.stamps.proofs.stamp_twice.Kinds as stamp-twice-kinds
use Rattle.stamps.proofs.stamp_twice.Reads as stamp-twice
use Rattle.gather.proofs.copy.Kinds as copy-kinds
use Rattle.gather.proofs.copy.Reads as copy
use Rattle.gather.proofs.load_root.Kinds as load-root-kinds
use Rattle.gather.proofs.load_root.Reads as load-root
use Rattle.gather.proofs.save_root.Kinds as save-root-kinds
use Rattle.gather.proofs.save_root.Reads as save-root
use Rattle.gather.proofs.load_slots.Kinds as load-slots-kinds
use Rattle.gather.proofs.load_slots.Reads as load-slots
use Rattle.gather.proofs.load_path.Kinds as load-path-kinds
use Rattle.gather.proofs.load_path.Reads as load-path
use Rattle.gather.proofs.load_siblings.Kinds as load-siblings-kinds
use Rattle.gather.proofs.load_siblings.Reads as load-siblings
use Rattle.clearing.proofs.find.Kinds as find-kinds
use Rattle.clearing.proofs.find.Reads as find
use Rattle.clearing.proofs.clear.Kinds as clear-kinds
use Rattle.clearing.proofs.clear.Reads as clear
use Rattle.mend.proofs.mend_path.Kinds as mend-path-kinds
use Rattle.mend.proofs.mend_path.Reads as mend-path
use Rattle.writing.proofs.write_part.Kinds as write-part-kinds
use Rattle.writing.proofs.write_part.Reads as write-part
use Rattle.writing.proofs.write_path.Kinds as write-path-kinds
use Rattle.writing.proofs.write_path.Reads as write-path
use Rattle.work.proofs.work_path.Kinds as work-path-kinds
use Rattle.work.proofs.work_path.Reads as work-path
use Rattle.shown.proofs.show_path.Kinds as show-path-kinds
use Rattle.shown.proofs.show_path.Reads as show-path
use Rattle.shown.proofs.show_pair.Kinds as show-pair-kinds
use Rattle.shown.proofs.show_pair.Reads as show-pair

pub full-words : (ws : List ℕ) (n : ℕ) (rs : List Record) → length ws ≡ 4 * n → records ws ≡ rs → ws ≡ words_of rs
full-words ws n rs long e = sym (words-records ws n long) ∙ ap words_of e

pub one-evict : Determines 1 evict-kinds.ps evict-kinds.r evict.Asked evict.Learnt
one-evict =
    one-answer 1 evict-kinds.ps evict-kinds.r evict.Asked evict.Learnt _ _
    (λ κs a ok x xs f p. (refl, λ i. (full-words _ _ _ (f.0 ∙ ok.1) (p) i, (tt, (tt, tt)))))

pub one-least-over : Determines 1 least-over-kinds.ps least-over-kinds.r least-over.Asked least-over.Learnt
one-least-over =
    one-answer 1 least-over-kinds.ps least-over-kinds.r least-over.Asked least-over.Learnt _ _
    (λ κs a ok x xs f p. (p (rule_for 0 0), refl))

pub one-kids-least : Determines 0 kids-least-kinds.ps kids-least-kinds.r kids-least.Asked kids-least.Learnt
one-kids-least =
    one-answer 0 kids-least-kinds.ps kids-least-kinds.r kids-least.Asked kids-least.Learnt _ _
    (λ κs a ok x xs f p. (p (rule_for 0 0), refl))

pub one-stamp-twice : Determines 1 stamp-twice-kinds.ps stamp-twice-kinds.r stamp-twice.Asked stamp-twice.Learnt
one-stamp-twice =
    one-answer 1 stamp-twice-kinds.ps stamp-twice-kinds.r stamp-twice.Asked stamp-twice.Learnt _ _
    (λ κs a ok x xs f p. (p, refl))

pub one-copy : Determines 2 copy-kinds.ps copy-kinds.r copy.Asked copy.Learnt
one-copy =
    one-answer 2 copy-kinds.ps copy-kinds.r copy.Asked copy.Learnt _ _
    (λ κs a ok x xs f p. (refl, λ i. (p i, (tt, (tt, (tt, (tt, tt)))))))

pub one-load-root : Determines 1 load-root-kinds.ps load-root-kinds.r load-root.Asked load-root.Learnt
one-load-root =
    one-answer 1 load-root-kinds.ps load-root-kinds.r load-root.Asked load-root.Learnt _ _
    (λ κs a ok x xs f p. (refl, λ i. (p i, (tt, (tt, tt)))))

pub one-save-root : Determines 1 save-root-kinds.ps save-root-kinds.r save-root.Asked save-root.Learnt
one-save-root =
    one-answer 1 save-root-kinds.ps save-root-kinds.r save-root.Asked save-root.Learnt _ _
    (λ κs a ok x xs f p. (p, refl))

pub one-load-slots : Determines 2 load-slots-kinds.ps load-slots-kinds.r load-slots.Asked load-slots.Learnt
one-load-slots =
    one-answer 2 load-slots-kinds.ps load-slots-kinds.r load-slots.Asked load-slots.Learnt _ _
    (λ κs a ok x xs f p. (refl, λ i. (p i, (tt, (tt, (tt, (tt, (tt, tt))))))))

pub one-load-path : Determines 2 load-path-kinds.ps load-path-kinds.r load-path.Asked load-path.Learnt
one-load-path =
    one-answer 2 load-path-kinds.ps load-path-kinds.r load-path.Asked load-path.Learnt _ _
    (λ κs a ok x xs f p. (refl, λ i. (p i, (tt, (tt, (tt, tt))))))

pub one-load-siblings : Determines 2 load-siblings-kinds.ps load-siblings-kinds.r load-siblings.Asked load-siblings.Learnt
one-load-siblings =
    one-answer 2 load-siblings-kinds.ps load-siblings-kinds.r load-siblings.Asked load-siblings.Learnt _ _
    (λ κs a ok x xs f p. (p.counted, λ i. (p.laid i, (tt, (tt, (tt, (tt, (tt, tt))))))))

pub one-find : Determines 1 find-kinds.ps find-kinds.r find.Asked find.Learnt
one-find =
    one-answer 1 find-kinds.ps find-kinds.r find.Asked find.Learnt _ _
    (λ κs a ok x xs f p. (p, refl))

pub one-clear : Determines 1 clear-kinds.ps clear-kinds.r clear.Asked clear.Learnt
one-clear =
    one-answer 1 clear-kinds.ps clear-kinds.r clear.Asked clear.Learnt _ _
    (λ κs a ok x xs f p. (p.answered, λ i. (p.words i, (tt, (tt, tt)))))

pub one-mend-path : Determines 3 mend-path-kinds.ps mend-path-kinds.r mend-path.Asked mend-path.Learnt
one-mend-path =
    one-answer 3 mend-path-kinds.ps mend-path-kinds.r mend-path.Asked mend-path.Learnt _ _
    (λ κs a ok x xs f p. ((p (rule_for 0 0)).children, λ i. ((p (rule_for 0 0)).words i, (tt, (tt, (tt, (tt, tt)))))))

pub one-write-part : Determines 2 write-part-kinds.ps write-part-kinds.r write-part.Asked write-part.Learnt
one-write-part =
    one-answer 2 write-part-kinds.ps write-part-kinds.r write-part.Asked write-part.Learnt _ _
    (λ κs a ok x xs f p. (refl, λ i. (p i, (tt, tt))))

pub one-write-path : Determines 2 write-path-kinds.ps write-path-kinds.r write-path.Asked write-path.Learnt
one-write-path =
    one-answer 2 write-path-kinds.ps write-path-kinds.r write-path.Asked write-path.Learnt _ _
    (λ κs a ok x xs f p. (p.counted, λ i. (p.words i, (tt, (tt, tt)))))

pub one-work-path : Determines 3 work-path-kinds.ps work-path-kinds.r work-path.Asked work-path.Learnt
one-work-path =
    one-answer 3 work-path-kinds.ps work-path-kinds.r work-path.Asked work-path.Learnt _ _
    (λ κs a ok x xs f p. ((p (rule_for 0 0)).least, λ i. (full-words _ _ _ (f.0 ∙ ok.slots) (p (rule_for 0 0)).after i, (tt, ((p (rule_for 0 0)).buckets i, (tt, (tt, tt)))))))

pub one-show-path : Determines 3 show-path-kinds.ps show-path-kinds.r show-path.Asked show-path.Learnt
one-show-path =
    one-answer 3 show-path-kinds.ps show-path-kinds.r show-path.Asked show-path.Learnt _ _
    (λ κs a ok x xs f p. (p.counted, λ i. (full-words _ _ _ (f.0 ∙ ok.slots) p.way i, (full-words _ _ _ (f.1.0 ∙ ok.siblings) p.siblings i, (tt, (tt, (tt, tt)))))))

pub one-show-pair : Determines 5 show-pair-kinds.ps show-pair-kinds.r show-pair.Asked show-pair.Learnt
one-show-pair =
    one-answer 5 show-pair-kinds.ps show-pair-kinds.r show-pair.Asked show-pair.Learnt _ _
    (λ κs a ok x xs f p. (p.counted, λ i. (full-words _ _ _ (f.0 ∙ ok.ways) p.way i, (full-words _ _ _ (f.1.0 ∙ ok.ones) p.first i, (full-words _ _ _ (f.1.1.0 ∙ ok.twos) p.second i, (full-words _ _ _ (f.1.1.1.0 ∙ ok.alls) p.slots i, (tt, (tt, (tt, tt)))))))))
