-- Lines behind others are answered from the state that those leave; and only what a line says counts. Assumes nothing.
use Prim.Native.Nat.{ℕ}
use mathlib.Core.List.{List, [], ◌∷◌, ◌++◌, append_assoc, append-nil}
use mathlib.Core.Path.{◌≡◌, refl, sym}
use Rattle.output.specs.Output.{State, reply_to, behind_line, replies_to, behind_all}

pub replies-joined :
    (s : State) (xs ys : List (List ℕ)) → replies_to s (xs ++ ys) ≡ replies_to s xs ++ replies_to (behind_all s xs) ys
unfolding replies_to behind_all
replies-joined s [] ys = refl
replies-joined s (x ∷ xs) ys =
    rw (replies-joined (behind_line s x) xs ys)
    (sym (append_assoc (reply_to s x) (replies_to (behind_line s x) xs) (replies_to (behind_all (behind_line s x) xs) ys)))

pub behind-joined : (s : State) (xs ys : List (List ℕ)) → behind_all s (xs ++ ys) ≡ behind_all (behind_all s xs) ys
unfolding behind_all
behind-joined s [] ys = refl
behind-joined s (x ∷ xs) ys = behind-joined (behind_line s x) xs ys

pub replies-one : (s : State) (line : List ℕ) → replies_to s (line ∷ []) ≡ reply_to s line
unfolding replies_to
replies-one s line = append-nil (reply_to s line)

pub behind-one : (s : State) (line : List ℕ) → behind_all s (line ∷ []) ≡ behind_line s line
unfolding behind_all
behind-one s line = refl

pub replies-none : (s : State) → replies_to s [] ≡ []
unfolding replies_to
replies-none s = refl

pub behind-none : (s : State) → behind_all s [] ≡ s
unfolding behind_all
behind-none s = refl
