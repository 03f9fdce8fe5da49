-- Records laid over some words: how long, part by part, and what records stand there afterwards. Assumes nothing.
use Prim.Native.Nat.{ℕ, ◌+◌, ◌*◌, ◌≤◌, ◌<◌}
use mathlib.Core.Path.{◌≡◌, sym, ap}
use mathlib.Core.List.{List, [], ◌∷◌, ◌++◌, append_assoc, append-nil}
use native.Mathlib.Nat.{add-zero, zero-add}
use native.Mathlib.Omega.{arith}
use lib.ListN.{length, get_or, take, drop, length-append, length-drop, take-append-drop, drop_of_length-le, get_or-append}
use lib.Seq.{length-take-le, take-length, take_at, drop_at, drop-drop, get_or-append-add, paste}
use Rattle.record.specs.declared.Record.{Record}
use Rattle.record.specs.Words.{records, words_of, written}
use Rattle.record.proofs.WordsLaws.{written-splits, words-one, words_append, words-length, words-records, records-append, records-take, records-drop, records-count, records-long, records-length}
use Rattle.way.proofs.WayLaws.{part_length, part-words}
use Rattle.gather.specs.Laid.{laid_over}

-- the words before a place are those of the records before it
before-place : (ws : List ℕ) (p : ℕ) → 4 * p ≤ length ws → take (4 * p) ws ≡ words_of (take p (records ws))
before-place ws p h = rw (← records-take) (sym (words-records _ p (length-take-le (4 * p) ws h)))

-- all of them again, or none, changes nothing
pub laid-all : (ws : List ℕ) → laid_over ws 0 (records ws) ≡ ws
unfolding laid_over
laid-all ws =
    let n = records-count ws in
    let e = rw take-length at (before-place ws (length (records ws)) (omega arith)) in
    rw (← e, zero-add) (take-append-drop (4 * length (records ws)) ws)

pub laid_none : (ws : List ℕ) (p : ℕ) → laid_over ws p [] ≡ ws
unfolding laid_over words_of
laid_none ws p = rw (add-zero, append-nil, take-append-drop)

module _ (ws : List ℕ) (p : ℕ) (rs : List Record) (room : 4 * (p + length rs) ≤ length ws) where
  head-length : length (take (4 * p) ws ++ words_of rs) ≡ 4 * (p + length rs)
  head-length = rw (length-append, words-length, length-take-le (4 * p) ws (omega arith)) (omega arith)

  pub laid-length : length (laid_over ws p rs) ≡ length ws
  unfolding laid_over
  laid-length = rw (length-append, head-length, length-drop) (omega arith)

  -- some records more
  pub laid_more : (ss : List Record) → laid_over (laid_over ws p rs) (p + length rs) ss ≡ laid_over ws p (rs ++ ss)
  unfolding laid_over
  laid_more ss =
      let e : 4 * (p + length rs + length ss) ≡ 4 * (p + length rs) + 4 * length ss = omega arith in
      let f : 4 * (p + (length rs + length ss)) ≡ 4 * (p + length rs) + 4 * length ss = omega arith in
      rw (take_at _ _ _ head-length, e, ← drop-drop, drop_at _ _ _ head-length, length-append, f, words_append, drop-drop, append_assoc (take (4 * p) ws) (words_of rs))

  -- the records that stand there now
  pub laid-records : records (laid_over ws p rs) ≡ take p (records ws) ++ rs ++ drop (p + length rs) (records ws)
  unfolding laid_over
  laid-records =
      rw (before-place ws p (omega arith), append_assoc, records-append, records-append, records-drop, append_assoc)

  -- nothing behind them
  pub laid-last : length ws ≡ 4 * (p + length rs) → records (laid_over ws p rs) ≡ take p (records ws) ++ rs
  laid-last e =
      let n = records-length ws (p + length rs) e in
      rw (laid-records, drop_of_length-le (records ws) {i = p + length rs} (omega arith), append-nil)

  pub laid-at : (i : ℕ) (d : Record) → i < length rs → get_or (records (laid_over ws p rs)) (p + i) d ≡ get_or rs i d
  laid-at i d h =
      let l = records-long ws (p + length rs) room in
      let n : length (take p (records ws)) ≡ p = length-take-le p (records ws) (omega arith) in
      rw (laid-records, append_assoc, ap (λ (k : ℕ). k + i) (sym n), get_or-append-add, get_or-append)

-- a record written is one laid
pub written-laid : (ws : List ℕ) (p : ℕ) (x : Record) → 4 * p + 4 ≤ length ws → written ws p x ≡ laid_over ws p (x ∷ [])
unfolding laid_over
written-laid ws p x h =
    let e : 4 * (p + 1) ≡ 4 * p + 4 = omega arith in
    rw (e, words-one, written-splits ws p x h)

-- so are words copied
pub paste-laid : (ws src : List ℕ) (at from n : ℕ) → 4 * (from + n) ≤ length src
    → paste ws (4 * at) (drop (4 * from) src) (4 * n) ≡ laid_over ws at (take n (drop from (records src)))
unfolding laid_over
paste-laid ws src at from n h =
    let e : 4 * at + 4 * n ≡ 4 * (at + n) = omega arith in
    rw (← part-words src from n h, part_length src from n h, e)
