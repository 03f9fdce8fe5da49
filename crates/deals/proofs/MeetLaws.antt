-- Two sequences side by side, the second with labels dealt along the order in which events leave: one request on both asks for
-- the same list and leaves the two side by side again, unless the second overflows. Assumes nothing.
use Prim.Native.Nat.{ℕ, suc, ◌<◌, ◌≤◌}
use mathlib.Core.Bool.{true}
use mathlib.Core.List.{List, [], ◌∷◌, ◌++◌, map, head-eq_of_cons-eq, tail-eq_of_cons-eq}
use mathlib.Core.Logic.{◌⊎◌, inl, inr, ⊎_elim}
use mathlib.Core.Option.{Option, some, some-injective}
use mathlib.Core.Path.{◌≡◌, refl, sym, ap, ◌∙◌, subst}
use native.Mathlib.Omega.{arith}
use lib.ListN.{length, length-map}
use Rattle.record.specs.declared.Leaf.{Leaf}
use Rattle.record.specs.declared.Stamp.{Stamp}
use Rattle.record.specs.Standing.{dummy_key}
use Rattle.path.specs.declared.sizes.Sizes.{Sizes}
use Rattle.path.specs.Sizes.{leaves_of}
use Rattle.lists.specs.BucketList.{pair_list, path_list}
use Rattle.request.specs.declared.Request.{Request}
use Rattle.request.specs.declared.Request.TheVariants.{Insert, Extract, Delete}
use Rattle.listing.proofs.ListingLaws.{path-places, path-words}
use Rattle.card.specs.Tables.{parts_of}
use Rattle.card.specs.Calls.{list_of}
use Rattle.demands.specs.Queue.{Reference, Event, Queue, Operation, has, without_this, extract_min, next, nothing, delete as remove}
use Rattle.world.specs.World.{World, Asked, insert, extract, delete, Call, begin, finish, find_min, step}
use Rattle.demands.specs.Refusals.{parts_told}
use Rattle.demands.specs.Says.{ref_of, event_of, asks}
use Rattle.deals.specs.Trace.{number_given}
use Rattle.deals.specs.Sequences.{leaf, requests, blanks, unlabelled, well, Fair}
use Rattle.deals.specs.Dealing.{ref_in, gone, leaving}
use Rattle.deals.proofs.LeavingLaws.{All, all_append, all_in, There, out-all, has_one, least-in, stamps}
use Rattle.deals.proofs.DressLaws.{ref, Bare, dress, dressed, has-dress, insert-dress, delete-dress, dressed-least, extract-dress}
use Rattle.deals.proofs.RoundLaws.{Idle, idle-count, idle-least, idle-known, idle-begin, look-idle, done_by, Round, round-passes}
use Rattle.deals.proofs.RequestLaws.{insert-again, extract-again, delete-again, spoken, spoken-well}
use Rattle.deals.proofs.TwinLaws.{OneKind, both-insert, both-extract, both-delete, taken}
use Rattle.deals.proofs.ThereLaws.{extract-live, there-second, length-after}

same-label : (a b : Event) → some a ≡ some b → a.ref.label ≡ b.ref.label
same-label a b e = ap (λ (e : Event). e.ref.label) (some-injective a b e)

-- an Insert with this label
abbrev pub labelled_as : (label key value : ℕ) (first second : Leaf) → key ≤ dummy_key → Asked (Insert key value (leaf label) first second)
labelled_as label key value first second word = insert {key = key} {value = value} {label = leaf label} {first = first} {second = second} word

-- ---- labels that f gives, each below N
module _ (s : Sizes) (f : ℕ → ℕ) (below : (stamp : ℕ) → f stamp < leaves_of s.h) where
  -- the world of the second holds its plain queue, with these labels; what is left to leave has the labels of the first
  pub record Pair (u v : World) (q p : Queue) (cs ds : List Call) : Type 0 where
    pub second : Idle s v (dressed f p)
    pub same_taken : q.taken ≡ p.taken
    pub same-many : length q.events ≡ length p.events
    pub bare : All Bare p.events
    pub leave : map f (stamps (leaving p (blanks ds))) ≡ map (λ r. r.label) (leaving q (requests cs))

  module _ {u v : World} {q p : Queue} {cs ds : List Call} (i : Idle s u q) (x : Pair u v q p cs ds) where
    same-sizes : v.card.sizes ≡ u.card.sizes
    same-sizes = x.second.stands.sizes ∙ sym i.stands.sizes

    same-t : v.card.t ≡ u.card.t
    same-t = x.second.stands.taken ∙ sym x.same_taken ∙ sym i.stands.taken

    pub same-c : v.card.c ≡ u.card.c
    same-c =
        idle-count s v (dressed f p) x.second ∙ length-map p.events (dress f) ∙ sym x.same-many ∙ sym (idle-count s u q i)

  -- FindMin on both
  pub pair-look : {u v : World} {q p : Queue} {cs ds : List Call} → Pair u v q p (find_min ∷ cs) (find_min ∷ ds) → number_given (step v find_min) ≡ 0
      → Pair (step u find_min).world (step v find_min).world q p cs ds
  unfolding leaving
  pair-look {u} {v} {q} {p} x n =
      record {
        second = look-idle v s (dressed f p) x.second n;
        same_taken = x.same_taken;
        same-many = x.same-many;
        bare = x.bare;
        leave = x.leave;
      }

  -- ---- a request on both: what the second comes to
  -- one event leaves on each side: the label of the first is the one that f gives to the second
  module _ (q p : Queue) (a b : Operation) (rs ss : List Operation) (x y : Reference) where
    both-leave :
        map f (stamps (leaving p (b ∷ nothing ∷ ss))) ≡ map (λ r. r.label) (leaving q (a ∷ nothing ∷ rs)) → gone q a ≡ x ∷ [] → gone p b ≡ y ∷ []
        → f y.stamp ∷ map f (stamps (leaving (next p b) ss)) ≡ x.label ∷ map (λ r. r.label) (leaving (next q a) rs)
    unfolding leaving
    both-leave l ex ey =
        ap (λ (g : List Reference). map f (stamps (g ++ leaving (next p b) ss))) (sym ey) ∙ l
        ∙ ap (λ (g : List Reference). map (λ r. r.label) (g ++ leaving (next q a) rs)) ex

  -- what both leave is a pair again
  pair-next : {u v : World} (q p : Queue) {w x x' : Request} {asked : Asked w} {asked' : Asked x'} {places words places' words' : List ℕ}
      {cs ds cs' ds' : List Call} → Pair u v q p cs' ds' → OneKind w x → Round s u q asked places words → Round s v (dressed f p) asked' places' words'
      → next (dressed f p) (asks x') ≡ dressed f (next p (unlabelled (asks x)))
      → (next q (asks w)).taken ≡ (next p (unlabelled (asks x))).taken
      → There q (asks w) → There p (unlabelled (asks x)) → All Bare (next p (unlabelled (asks x))).events
      → map f (stamps (leaving (next p (unlabelled (asks x))) (blanks ds)))
      ≡ map (λ r. r.label) (leaving (next q (asks w)) (requests cs))
      → Pair (done_by u asked places words).world (done_by v asked' places' words').world (next q (asks w)) (next p (unlabelled (asks x))) cs ds
  pair-next q p y same r t goes taken' h k bare leave =
      record {
        second = subst (Idle s _) goes t.after;
        same_taken = taken';
        same-many = length-after same q p h k y.same-many;
        bare = bare;
        leave = leave;
      }

  pub record Meets (u v : World) (q p : Queue) {w x' : Request} (x : Request) (asked : Asked w) (asked' : Asked x')
      (places words places' words' : List ℕ) (cs ds : List Call) : Type 0 where
    pub request : Round s v (dressed f p) asked' places' words'
    pub list : list_of v.card x' ≡ list_of u.card w
    pub answered : well (done_by v asked' places' words').answer ≡ true
    pub later :
        Pair (done_by u asked places words).world (done_by v asked' places' words').world (next q (asks w)) (next p (unlabelled (asks x))) cs ds

  -- Insert: taken, or an Overflow
  pub insert-meets : {u v : World} (q p : Queue) {cs ds : List Call} {key value key' value' : ℕ} {label label' first second : Leaf}
      {asked : Asked (Insert key value label first second)} {places words places' words' : List ℕ} (word : key' ≤ dummy_key)
      → Round s u q asked places words → Fair s p (Insert key' value' label' first second) places' words'
      → Pair u v q p (begin asked places ∷ finish words ∷ cs)
      (begin (insert {key = key'} {value = value'} {label = label'} {first = first} {second = second} word) places' ∷ finish words' ∷ ds)
      → Meets u v q p (Insert key' value' label' first second) asked (labelled_as (f p.taken) key' value' first second word) places words places' words' cs ds
      ⊎ (number_given (step v (begin (labelled_as (f p.taken) key' value' first second word) places')) ≡ 10)
  unfolding leaving list_of
  insert-meets {u} {v} q p {key = key} {value} {key'} {value'} {label} {label'} {first} {second} {places' = places'} {words' = words'} word r fair x =
      let given = labelled_as (f p.taken) key' value' first second word in
      let n = idle-begin s v (dressed f p) x.second given places' (fair.room (parts_of v.card)) in
      ⊎_elim
      (λ e.
      let t = round-passes s v (dressed f p) given places' words' x.second (n ∙ e) (fair.lent (parts_told s (dressed f p))) in
      inl (record {
        request = t;
        list = ap (λ (z : Sizes). pair_list z.h first second) (same-sizes r.before x);
        answered = spoken-well (done_by v given places' words').answer (ap spoken t.said);
        later = pair-next q p x (both-insert {label' = label'}) r t (insert-dress f p key' value') (ap suc x.same_taken) tt tt
            (all_append Bare p.events _ x.bare (refl, tt)) x.leave;
      }))
      (λ e. inr (n ∙ e))
      (insert-again u.card v.card (same-sizes r.before x) (same-t r.before x) (same-c r.before x) key value label first second
      key' value' (leaf (f p.taken)) r.request fair.sound
      (subst (λ (z : Sizes). f p.taken < leaves_of z.h) (sym r.before.stands.sizes) (below p.taken)))

  -- ExtractMin: both take out their least, and the label of the one is dealt to the other
  pub extract-meets : {u v : World} (q p : Queue) {cs ds : List Call} {asked : Asked Extract} {places words places' words' : List ℕ}
      → Round s u q asked places words → Fair s p Extract places' words'
      → Pair u v q p (begin asked places ∷ finish words ∷ cs) (begin extract places' ∷ finish words' ∷ ds)
      → Meets u v q p Extract asked extract places words places' words' cs ds
  unfolding leaving list_of
  extract-meets {u} {v} q p {cs} {ds} {places' = places'} {words' = words'} r fair x =
      let n = idle-begin s v (dressed f p) x.second extract places' (fair.room (parts_of v.card)) in
      let e = extract-again u.card v.card (same-sizes r.before x) (same-t r.before x) (same-c r.before x) r.request in
      let t = round-passes s v (dressed f p) extract places' words' x.second (n ∙ e) (fair.lent (parts_told s (dressed f p))) in
      let ours = idle-least s u q r.before (extract-live r) in
      let h : There q extract_min = (event_of u.card.least, ours) in
      let k = there-second both-extract q p h x.same-many fair in
      let (m, least) = k in
      let bare = all_in Bare (least-in p.events m least) x.bare in
      let leave =
      both-leave q p extract_min extract_min (requests cs) (blanks ds) (event_of u.card.least).ref m.ref x.leave (ap ref_in ours) (ap ref_in least) in
      let is : some (event_of v.card.least) ≡ some (dress f m) =
      sym (idle-least s v (dressed f p) x.second (extract-live t)) ∙ dressed-least f p m least in
      let head : f m.ref.stamp ≡ u.card.least.label.0 = head-eq_of_cons-eq leave in
      let label : v.card.least.label.0 ≡ u.card.least.label.0 = same-label (event_of v.card.least) (dress f m) is ∙ head in
      record {
        request = t;
        list = λ i. path_list (same-sizes r.before x i).h (record { 0 = label i });
        answered = spoken-well (done_by v extract places' words').answer (ap spoken t.said);
        later = pair-next q p x both-extract r t (extract-dress f p m least bare x.bare) (ap suc x.same_taken) h k
            (subst (λ (o : Option Event). All Bare (without_this p o)) (sym least) (out-all m.ref Bare p.events x.bare)) (tail-eq_of_cons-eq leave);
      }

  -- Delete: each names a live event, and the label of the one is dealt to the other
  pub delete-meets : {u v : World} (q p : Queue) {cs ds : List Call} {label label' : Leaf} {stamp stamp' : Stamp} {asked : Asked (Delete label stamp)}
      {places words places' words' : List ℕ} → Round s u q asked places words → There q (asks (Delete label stamp))
      → Fair s p (Delete label' stamp') places' words'
      → Pair u v q p (begin asked places ∷ finish words ∷ cs) (begin (delete {label = label'} {stamp = stamp'}) places' ∷ finish words' ∷ ds)
      → Meets u v q p (Delete label' stamp') asked (delete {label = leaf (f stamp'.0)} {stamp = stamp'}) places words places' words' cs ds
  unfolding leaving list_of
  delete-meets {u} {v} q p {cs} {ds} {label} {label'} {stamp} {stamp'} {places' = places'} {words' = words'} r h fair x =
      let own = leaf (f stamp'.0) in
      let deleted = delete {label = own} {stamp = stamp'} in
      let n = idle-begin s v (dressed f p) x.second deleted places' (subst (λ (m : ℕ). m ≤ length places') (path-places s label' own label' own stamp' stamp') (fair.room (parts_of v.card))) in
      let live : has (ref (f stamp'.0) stamp'.0) (dressed f p).events ≡ true = has-dress f stamp'.0 p.events x.bare ∙ fair.sound in
      let (event, inside, is) = has_one (ref (f stamp'.0) stamp'.0) (dressed f p).events live in
      let earlier : stamp'.0 < u.card.t =
      omega (arith, idle-known s v (dressed f p) x.second event inside, ap (λ (r : Reference). r.stamp) is, same-t r.before x) in
      let e =
      delete-again u.card v.card (same-sizes r.before x) (same-t r.before x) (same-c r.before x) label own stamp stamp' r.request
      (subst (λ (z : Sizes). f stamp'.0 < leaves_of z.h) (sym r.before.stands.sizes) (below stamp'.0)) earlier in
      let t = round-passes s v (dressed f p) deleted places' words' x.second (n ∙ e)
      (subst (λ (m : ℕ). m ≤ length words') (path-words s label' own label' own stamp' stamp') (fair.lent (parts_of v.card))) in
      let leave =
      both-leave q p (asks (Delete label stamp)) (remove (ref 0 stamp'.0)) (requests cs) (blanks ds) (ref_of label stamp) (ref 0 stamp'.0) x.leave refl refl in
      let head : f stamp'.0 ≡ label.0 = head-eq_of_cons-eq leave in
      record {
        request = t;
        list = λ i. path_list (same-sizes r.before x i).h (record { 0 = head i });
        answered = spoken-well (done_by v deleted places' words').answer (ap spoken t.said ∙ live);
        later = pair-next q p x (both-delete {label' = label'} {stamp' = stamp'}) r t (delete-dress f p stamp'.0 x.bare) (ap suc x.same_taken) h
            fair.sound (out-all (ref 0 stamp'.0) Bare p.events x.bare) (tail-eq_of_cons-eq leave);
      }
