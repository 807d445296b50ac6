-- What a watch keeps, and what becomes of it: by a call, and by what the inner reader or writer answers to it.
use Rattle.std.specs.Prelude.{◌≡◌, ℕ, ◌-◌, ◌<◌, ◌≤◌, ◌⊎◌, Bool, true, false, not, ◌==◌}
use Rattle.std.specs.Prelude.{◌||◌, ◌&&◌, Result, Ok, Err}
use Rattle.lalrpop_grammar_streams.specs.declared.watch.Watch.{Watch}
use Rattle.lalrpop_grammar_streams.specs.declared.watched.Watched.{Watched}

abbrev pub inner_of : {T : Type 0} → Watched T → T
inner_of w = w.inner

abbrev pub watch_of : {T : Type 0} → Watched T → Watch
watch_of w = w.watch

-- a call has failed, or none is left
abbrev pub is_over : Watch → Bool
is_over w = w.failed || (w.calls == 0)

-- A call of read, with room for a byte or without: one call fewer is left, and it is misuse behind the end or without room.
abbrev pub after_call : Watch → Bool → Watch
after_call w room = record w { calls = w.calls - 1; misused = w.misused || (w.ended || not room) }

-- no bytes for a buffer with room are the end
abbrev pub is_end : {E : Type 0} → Bool → Result ℕ E → Bool
is_end room (Ok n) = room && (n == 0)
is_end room (Err e) = false

-- a failure that isn't told as an interruption
abbrev pub IsFailure : {E : Type 0} → (E → Type 0) → Result ℕ E → Type 0
IsFailure IsInterrupted (Ok n) = ⊥
IsFailure IsInterrupted (Err e) = IsInterrupted e → ⊥

-- What becomes of the watch and of the inner reader's answer: bytes that may still be read are given and counted, more are a
-- failure; an interruption and a failure are told as they came, and the failure is remembered.
abbrev pub IsRead : {E : Type 0} → (E → Type 0) → Watch → Watch → Bool → Result ℕ E → Result ℕ E → Type 0
IsRead IsInterrupted old new room (Ok n) result =
    ((n ≤ old.bytes) × (result ≡ Ok n) × (new ≡ record old { bytes = old.bytes - n; ended = old.ended || (room && (n == 0)) }))
    ⊎ ((old.bytes < n) × IsFailure IsInterrupted result × (new ≡ record old { failed = true }))
IsRead IsInterrupted old new room (Err e) result =
    (result ≡ Err e)
    × ((IsInterrupted e × (new ≡ old)) ⊎ ((IsInterrupted e → ⊥) × (new ≡ record old { failed = true })))

-- What becomes of the watch and of the inner writer's answer: bytes that were taken are told; none of some are a failure, and
-- so is the interruption that leaves no call; others are counted and told; a failure is told as it came, and remembered.
abbrev pub IsWrite : {E : Type 0} → (E → Type 0) → Watch → Watch → Bool → Result ℕ E → Result ℕ E → Type 0
IsWrite IsInterrupted old new empty (Ok n) result =
    ((((n == 0) && not empty) ≡ false) × (result ≡ Ok n) × (new ≡ old))
    ⊎ ((((n == 0) && not empty) ≡ true) × IsFailure IsInterrupted result × (new ≡ record old { failed = true }))
IsWrite IsInterrupted old new empty (Err e) result =
    ((IsInterrupted e → ⊥) × (result ≡ Err e) × (new ≡ record old { failed = true }))
    ⊎ (IsInterrupted e × (((1 < old.calls) × (result ≡ Err e) × (new ≡ record old { calls = old.calls - 1 }))
    ⊎ ((old.calls ≤ 1) × IsFailure IsInterrupted result × (new ≡ record old { calls = 0 }))))
