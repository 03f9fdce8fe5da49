-- A world that stands, in the words of demand 2. Assumes nothing.
use Prim.Native.Nat.{ℕ}
use mathlib.Core.Bool.{true≢false}
use mathlib.Core.List.Memᴰ
use mathlib.Core.List.{List, Memᴰ}
use mathlib.Core.Logic.{◌⊎◌, inl, inr, ⊎_elim}
use mathlib.Core.Path.{◌≡◌, sym, ap, ◌∙◌, subst}
use lib.ListN.{length, length-map}
use Rattle.std.specs.Prelude.{Option}
use Rattle.record.specs.declared.Bucket.{Bucket}
use Rattle.record.specs.declared.Record.{Record}
use Rattle.record.specs.Standing.{dummy, is_dummy}
use Rattle.record.proofs.StandingLaws.{is-dummy}
use Rattle.path.specs.declared.sizes.Sizes.{Sizes}
use Rattle.parts.specs.Parts.{rule_of}
use Rattle.card.specs.Tables.{parts_of}
use Rattle.tree.specs.Path.{OnPath}
use Rattle.good.specs.Good.{Good}
use Rattle.good.proofs.FitLaws.{at_place}
use Rattle.good.proofs.LowLaws.{live-real}
use Rattle.good.proofs.SlotLaws.{Holds, some-slot, one-slot}
use Rattle.demands.specs.Queue.{Event, Queue}
use Rattle.world.specs.World.{World}
use Rattle.demands.specs.Says.{event_of}
use Rattle.demands.specs.Demand2.{Stands}
use Rattle.demands.specs.Plainly.{buckets, Slot, in_slot, Plainly}
use Rattle.request.specs.declared.Request.{Request}

-- an event has all four numbers of its record
event-one : (x y : Record) → event_of x ≡ event_of y → x ≡ y
event-one x y e =
    let key = ap (λ (a : Event). a.key) e in
    let value = ap (λ (a : Event). a.value) e in
    let label = ap (λ (a : Event). a.ref.label) e in
    let stamp = ap (λ (a : Event). a.ref.stamp) e in
    λ i. record { key = key i; value = value i; label = record { 0 = label i }; stamp = record { 0 = stamp i } }

module _ (z : Sizes) (u : World) (p : Option Request) (q : Queue) (s : Stands z u p q) where
  abbrev live : List Record
  live = s.live

  good : Good u.card.sizes (rule_of (parts_of u.card)) (buckets u) live
  good = s.ready.heap.good

  -- the live record of an event
  record_of_lem : (e : Event) → Memᴰ e q.events → (x : Record) × Memᴰ x live × (event_of x ≡ e)
  record_of_lem e m = Memᴰ.of_map event_of live (subst (λ (es : List Event). Memᴰ e es) (sym s.events) m)

  stands-in : (b : Bucket) (i : ℕ) → Slot u b i
      → (in_slot u b i ≡ dummy) ⊎ (Memᴰ (in_slot u b i) live × OnPath u.card.sizes.h (in_slot u b i).label b)
  stands-in b i p = good.housed.stands b p.within (in_slot u b i) (at_place (buckets u b).slots i p.place)

  -- a live record is no dummy, so what holds it is on its path
  on-path : (x : Record) → Memᴰ x live → (b : Bucket) (i : ℕ) → Slot u b i → in_slot u b i ≡ x
      → OnPath u.card.sizes.h (in_slot u b i).label b
  on-path x m b i p e =
      ⊎_elim (λ (d : in_slot u b i ≡ dummy).
      absurd (true≢false (sym is-dummy ∙ ap is_dummy (sym d ∙ e) ∙ live-real u.card.sizes (rule_of (parts_of u.card)) (buckets u) live good x m)))
      (λ (t : Memᴰ (in_slot u b i) live × OnPath u.card.sizes.h (in_slot u b i).label b). t.1) (stands-in b i p)

  event-slot : (e : Event) → Memᴰ e q.events
      → (b : Bucket) × (i : ℕ) × Slot u b i × (event_of (in_slot u b i) ≡ e) × OnPath u.card.sizes.h (in_slot u b i).label b
  event-slot e m =
      let r = record_of_lem e m in
      let h = some-slot u.card.sizes (rule_of (parts_of u.card)) (buckets u) live good r.0 r.1 in
      let p : Slot u h.0 h.1 = record { within = h.2.within; place = h.2.place } in
      (h.0, h.1, p, ap event_of h.2.there ∙ r.2, on-path r.0 r.1 h.0 h.1 p h.2.there)

  -- a slot that shows an event holds its record
  holds : (e : Event) (x : Record) → event_of x ≡ e → (b : Bucket) (i : ℕ) → Slot u b i → event_of (in_slot u b i) ≡ e
      → Holds u.card.sizes (buckets u) x b i
  holds e x f b i p g = record { within = p.within; place = p.place; there = event-one (in_slot u b i) x (g ∙ sym f) }

  pub stands-plainly : Plainly u q
  stands-plainly =
      record {
        seated = event-slot;
        once = λ e m a b i j p r f g.
            let x = record_of_lem e m in
            one-slot u.card.sizes (rule_of (parts_of u.card)) (buckets u) live good x.0 x.1 a b i j (holds e x.0 x.2 a i p f)
            (holds e x.0 x.2 b j r g);
        nothing_else = λ b i p.
            ⊎_elim inl
            (λ (t : Memᴰ (in_slot u b i) live × OnPath u.card.sizes.h (in_slot u b i).label b).
            inr (subst (λ (es : List Event). Memᴰ (event_of (in_slot u b i)) es) s.events (Memᴰ.map event_of t.0)))
            (stands-in b i p);
        leasts = good.leasts;
        count = s.ready.heap.count ∙ sym (length-map live event_of) ∙ ap length s.events;
      }
