-- Two sequences side by side, the second with labels dealt along the order in which events leave: the rack sees the same of both,
-- up to the second's first Overflow. Assumes nothing.
use Prim.Native.Nat.{ℕ, ◌<◌}
use mathlib.Core.Bool.{true}
use mathlib.Core.List.{List, [], ◌∷◌}
use mathlib.Core.Logic.{⊎_elim}
use mathlib.Core.Path.{◌≡◌, sym, ap, ◌∙◌}
use Rattle.std.specs.Prelude.{None}
use Rattle.path.specs.declared.sizes.Sizes.{Sizes}
use Rattle.path.specs.Sizes.{leaves_of}
use Rattle.request.specs.declared.Request.{Request}
use Rattle.card.specs.Calls.{list_of}
use Rattle.demands.specs.Queue.{Queue}
use Rattle.world.specs.World.{World, Asked, insert, extract, delete, Call, begin, finish, find_min, step}
use Rattle.deals.specs.Trace.{stored_back, number_given, seen, asked_for}
use Rattle.deals.specs.Sequences.{labelled, well}
use Rattle.deals.proofs.DressLaws.{dressed}
use Rattle.deals.proofs.RoundLaws.{look-well, look-seen, look-some, look-passes, done_by, Round}
use Rattle.deals.proofs.TwinLaws.{both-insert, both-extract, both-delete, Twin, ended, looked, taken}
use Rattle.deals.proofs.ThereLaws.{there-first}
use Rattle.deals.proofs.MeetLaws.{Pair, Meets, same-c, pair-look, insert-meets, extract-meets, delete-meets}

-- ---- the rack sees the same
pub data Agree : World → World → List Call → List Call → Type 0 where
  over : {u v : World} → v.card.waiting ≡ None → Agree u v [] []
  overflows : {u v : World} {c d : Call} {cs ds : List Call} → number_given (step v d) ≡ 10 → Agree u v (c ∷ cs) (d ∷ ds)
  goes_on : {u v : World} {c d : Call} {cs ds : List Call} → seen v d ≡ seen u c → well (step v d).answer ≡ true
      → Agree (step u c).world (step v d).world cs ds → Agree u v (c ∷ cs) (d ∷ ds)

-- of a request on each side that asks for the same list
agree-round : {s : Sizes} {u v : World} {q p : Queue} {w x : Request} {asked : Asked w} {asked' : Asked x} {places words places' words' : List ℕ}
    {cs ds : List Call} → Round s u q asked places words → Round s v p asked' places' words' → list_of v.card x ≡ list_of u.card w
    → well (done_by v asked' places' words').answer ≡ true
    → Agree (done_by u asked places words).world (done_by v asked' places' words').world cs ds
    → Agree u v (begin asked places ∷ finish words ∷ cs) (begin asked' places' ∷ finish words' ∷ ds)
agree-round r t e well' rest =
    goes_on (t.first ∙ ap asked_for e ∙ sym r.first) t.begins (goes_on (t.second ∙ ap stored_back e ∙ sym r.second) well' rest)

-- ---- request by request
module _ (s : Sizes) (f : ℕ → ℕ) (below : (stamp : ℕ) → f stamp < leaves_of s.h) where
  agree-met : {u v : World} {q p : Queue} {w x x' : Request} {asked : Asked w} {asked' : Asked x'} {places words places' words' : List ℕ}
      {cs ds ds' : List Call} → Round s u q asked places words → Meets s f below u v q p x asked asked' places words places' words' cs ds
      → Agree (done_by u asked places words).world (done_by v asked' places' words').world cs ds'
      → Agree u v (begin asked places ∷ finish words ∷ cs) (begin asked' places' ∷ finish words' ∷ ds')
  agree-met r m rest = agree-round r m.request m.list m.answered rest

  pub agree : {u : World} {q p : Queue} {cs ds : List Call} → Twin s u q p cs ds → (v : World) → Pair s f below u v q p cs ds
      → Agree u v cs (labelled f p.taken ds)
  unfolding labelled
  agree (ended i) v x = over x.second.stands.waiting
  agree {u} {q} {p} (looked i n tw) v x =
      let m = look-passes v s (dressed f p) x.second (λ e. look-some u n (sym (same-c s f below i x) ∙ e)) in
      goes_on (look-seen v ∙ sym (look-seen u)) (look-well v m) (agree tw (step v find_min).world (pair-look s f below x m))
  agree {u} {q} {p} (taken {asked' = insert word} both-insert r found fair tw) v x =
      ⊎_elim (λ m. agree-met r m (agree tw _ m.later)) overflows (insert-meets s f below q p word r fair x)
  agree {u} {q} {p} (taken {asked' = extract} both-extract r found fair tw) v x =
      let m = extract-meets s f below q p r fair x in
      agree-met r m (agree tw _ m.later)
  agree {u} {q} {p} (taken {asked' = delete} (both-delete {label' = label'} {stamp' = stamp'}) r found fair tw) v x =
      let m = delete-meets s f below q p r (there-first (both-delete {label' = label'} {stamp' = stamp'}) r found) fair x in
      agree-met r m (agree tw _ m.later)
