-- Computed examples of lanes: over the seven states of `S = C C; C = "c" C or "d"` without lookaheads, with two answers that are wrong.
use Rattle.std.proofs.Common.{◌≡◌, ◌↔◌, ◌⊎◌, ℕ, suc, List, [], ◌∷◌, drop, length, None, Some, Contains, refl, sym, ap, subst}
use Rattle.std.proofs.Common.{inl, inr, arith}
use Rattle.lalrpop_grammar_symbols.specs.Symbols.{Terminal, Text}
use Rattle.lalrpop_lr1_theory.specs.Productions.{Next, Production, Symbol, nonterminal, terminal}
use Rattle.lalrpop_lr1_theory.specs.Trees.{reduce, shift}
use Rattle.lalrpop_lr1_theory.specs.FirstSets.{First0, IsClosedTable, TableSays, ends, grows, keeps}
use Rattle.lalrpop_lr1_theory.proofs.ExampleLemmas.{head_same, name, name_same, next_same, nonterminal_is, none_same, not_empty}
use Rattle.lalrpop_lr1_theory.proofs.ExampleLemmas.{not_nonterminal, production, quoted, tail_same}
use Rattle.lalrpop_lr1_theory.proofs.FirstTableLemmas.{said_first}
use Rattle.lalrpop_lr1_theory.proofs.ListLemmas.{all_of}
use Rattle.lalrpop_lane_theory.specs.CarriedConflicts.{HasNoCarriedConflict}
use Rattle.lalrpop_lane_theory.specs.Lanes.{Lane, LaneAdds, LaneEnters, LaneNotes, TraceAdds, TraceEnters, TraceNotes, adds_end}
use Rattle.lalrpop_lane_theory.specs.Lanes.{adds_first, begins_lane, enters_behind, enters_own, steps_back, steps_up}
use Rattle.lalrpop_lane_theory.proofs.LaneLemmas.{lane_least}

-- the start's name, and S and C
abbrev start_name : Text
start_name = name 95

abbrev pub s_name : Text
s_name = name 83

abbrev pub c_name : Text
c_name = name 67

abbrev pub c_token : Terminal
c_token = quoted 99

abbrev pub d_token : Terminal
d_token = quoted 100

-- `__S = S`, `S = C C`, `C = "c" C` and `C = "d"`
abbrev starts_s : Production
starts_s = production 0 start_name (nonterminal s_name ∷ [])

abbrev pub two_c : Production
two_c = production 1 s_name (nonterminal c_name ∷ nonterminal c_name ∷ [])

abbrev pub c_more : Production
c_more = production 2 c_name (terminal c_token ∷ nonterminal c_name ∷ [])

abbrev pub c_ends : Production
c_ends = production 3 c_name (terminal d_token ∷ [])

abbrev grammar : List Production
grammar = starts_s ∷ two_c ∷ c_more ∷ c_ends ∷ []

abbrev G : Production → Type 0
G = Contains grammar

-- the states in which a C may begin: the first, the one behind the first C of an S, the one behind `"c"`
pub data BeginsC : ℕ → Type 0 where
  at_first : BeginsC 0
  behind_one : BeginsC 2
  behind_c : BeginsC 3

-- the items of the seven states
pub data StandsIn : ℕ → Production → ℕ → Type 0 where
  start_first : StandsIn 0 starts_s 0
  two_first : StandsIn 0 two_c 0
  start_done : StandsIn 1 starts_s 1
  two_second : StandsIn 2 two_c 1
  more_second : StandsIn 3 c_more 1
  ends_done : StandsIn 4 c_ends 1
  two_done : StandsIn 5 two_c 2
  more_done : StandsIn 6 c_more 2
  more_first : (n : ℕ) → BeginsC n → StandsIn n c_more 0
  ends_first : (n : ℕ) → BeginsC n → StandsIn n c_ends 0

-- their edges
pub data LeadsOn : ℕ → Symbol → ℕ → Type 0 where
  by_s : LeadsOn 0 (nonterminal s_name) 1
  by_one : LeadsOn 0 (nonterminal c_name) 2
  by_two : LeadsOn 2 (nonterminal c_name) 5
  by_more : LeadsOn 3 (nonterminal c_name) 6
  by_c : (n : ℕ) → BeginsC n → LeadsOn n (terminal c_token) 3
  by_d : (n : ℕ) → BeginsC n → LeadsOn n (terminal d_token) 4

-- What comes first: `"c"` or `"d"` in all that begins with a nonterminal, and never the end.
abbrev IsEither : Terminal → Type 0
IsEither t = (t ≡ c_token) ⊎ (t ≡ d_token)

abbrev Entry : Text → Next → Type 0
Entry A None = ⊥
Entry A (Some t) = IsEither t

-- it says of a left side all that it says of a right one
is_closed : IsClosedTable G Entry
is_closed p x g h =
    all_of (λ q. (y : Next) → TableSays Entry q.right y → Entry q.left y) grammar
    (by_name s_name start_name [], (by_name c_name s_name (nonterminal c_name ∷ []), (by_c_token, (by_d_token, tt)))) p g x h
  where
    by_name : (A B : Text) (xs : List Symbol) (y : Next) → TableSays Entry (nonterminal A ∷ xs) y → Entry B y
    by_name A B xs None h = h.0
    by_name A B xs (Some t) (inl h) = h
    by_name A B xs (Some t) (inr h) = absurd h.0

    by_c_token : (y : Next) → TableSays Entry (terminal c_token ∷ nonterminal c_name ∷ []) y → Entry c_name y
    by_c_token None h = let z : ⊥ = cc in absurd z
    by_c_token (Some t) h = inl (next_same t c_token h)

    by_d_token : (y : Next) → TableSays Entry (terminal d_token ∷ []) y → Entry c_name y
    by_d_token None h = let z : ⊥ = cc in absurd z
    by_d_token (Some t) h = inr (next_same t d_token h)

-- a C never derives nothing, and begins with either terminal
never_empty : First0 G (nonterminal c_name ∷ []) None → ⊥
never_empty h = (said_first G Entry is_closed (nonterminal c_name ∷ []) None h).0

begins_either : (t : Terminal) → First0 G (nonterminal c_name ∷ []) (Some t) → IsEither t
begins_either t h = go (said_first G Entry is_closed (nonterminal c_name ∷ []) (Some t) h)
  where
    go : TableSays Entry (nonterminal c_name ∷ []) (Some t) → IsEither t
    go (inl h) = h
    go (inr h) = absurd h.0

no_first : (t : Terminal) → First0 G [] (Some t) → ⊥
no_first t h = none_same t (said_first G Entry is_closed [] (Some t) h)

c_begins : First0 G (nonterminal c_name ∷ []) (Some c_token)
c_begins = (
  nonterminal c_name ∷ [],
  grows c_more (2, omega arith, refl) (keeps (terminal c_token) (keeps (nonterminal c_name) ends)) ends,
)

d_begins : First0 G (nonterminal c_name ∷ []) (Some d_token)
d_begins = ([], grows c_ends (3, omega arith, refl) (keeps (terminal d_token) ends) ends)

-- where a dot stands before a nonterminal: what stands behind that begins so only in state 0, behind the first C
first_behind : (n : ℕ) (r : Production) (j : ℕ) (A : Text) (b : List Symbol) (t : Terminal) → StandsIn n r j →
    drop j r.right ≡ nonterminal A ∷ b → First0 G b (Some t) → (n ≡ 0) × IsEither t
first_behind n r j A b t start_first d f =
    absurd (no_first t (subst (λ xs. First0 G xs (Some t)) (sym (tail_same (nonterminal s_name) (nonterminal A) [] b d)) f))
first_behind n r j A b t two_first d f = (
  refl,
  begins_either t
      (subst (λ xs. First0 G xs (Some t))
      (sym (tail_same (nonterminal c_name) (nonterminal A) (nonterminal c_name ∷ []) b d)) f),
)
first_behind n r j A b t two_second d f =
    absurd (no_first t (subst (λ xs. First0 G xs (Some t)) (sym (tail_same (nonterminal c_name) (nonterminal A) [] b d)) f))
first_behind n r j A b t more_second d f =
    absurd (no_first t (subst (λ xs. First0 G xs (Some t)) (sym (tail_same (nonterminal c_name) (nonterminal A) [] b d)) f))
first_behind n r j A b t (more_first m o) d f =
    absurd (not_nonterminal c_token A (head_same (terminal c_token) (nonterminal A) (nonterminal c_name ∷ []) b d))
first_behind n r j A b t (ends_first m o) d f =
    absurd (not_nonterminal d_token A (head_same (terminal d_token) (nonterminal A) [] b d))
first_behind n r j A b t start_done d f = absurd (not_empty (nonterminal A) b d)
first_behind n r j A b t ends_done d f = absurd (not_empty (nonterminal A) b d)
first_behind n r j A b t two_done d f = absurd (not_empty (nonterminal A) b d)
first_behind n r j A b t more_done d f = absurd (not_empty (nonterminal A) b d)

-- The lanes from `C = "d" (*)` in state 4 and from `C = "c" C (*)` in state 6.
data OnLane : ℕ → Production → ℕ → Type 0 where
  d_behind : OnLane 4 c_ends 1
  more_behind : OnLane 6 c_more 2
  d_before : (n : ℕ) → BeginsC n → OnLane n c_ends 0
  second_c : OnLane 2 two_c 1
  first_c : OnLane 0 two_c 0
  whole : OnLane 0 starts_s 0
  inner_c : OnLane 3 c_more 1
  c_before : (n : ℕ) → BeginsC n → OnLane n c_more 0

back_on : (k m n : ℕ) (q : Production) (i j : ℕ) (X : Symbol) → OnLane m q i → i ≡ suc j → LeadsOn k X n → n ≡ m → OnLane k q j
back_on k m n q i j X d_behind e (by_d l o) f = let z : 0 ≡ j = omega (arith, e) in subst (OnLane k c_ends) z (d_before k o)
back_on k m n q i j X second_c e by_one f = let z : 0 ≡ j = omega (arith, e) in subst (OnLane 0 two_c) z first_c
back_on k m n q i j X inner_c e (by_c l o) f = let z : 0 ≡ j = omega (arith, e) in subst (OnLane k c_more) z (c_before k o)
back_on k m n q i j X more_behind e by_more f = let z : 1 ≡ j = omega (arith, e) in subst (OnLane 3 c_more) z inner_c
back_on k m n q i j X l e t f = absurd (omega (arith, e, f))

-- the items with the dot before C, and nothing behind it, and with the dot before S
up_c : (n : ℕ) (r : Production) (j : ℕ) (b : List Symbol) → StandsIn n r j → drop j r.right ≡ nonterminal c_name ∷ b →
    First0 G b None → OnLane n r j
up_c n r j b start_first d f =
    absurd (omega (arith, name_same 83 67 (nonterminal_is s_name c_name (head_same (nonterminal s_name) (nonterminal c_name) [] b d))))
up_c n r j b two_first d f =
    absurd (never_empty (subst (λ xs. First0 G xs None)
    (sym (tail_same (nonterminal c_name) (nonterminal c_name) (nonterminal c_name ∷ []) b d)) f))
up_c n r j b two_second d f = second_c
up_c n r j b more_second d f = inner_c
up_c n r j b (more_first m o) d f =
    absurd (not_nonterminal c_token c_name (head_same (terminal c_token) (nonterminal c_name) (nonterminal c_name ∷ []) b d))
up_c n r j b (ends_first m o) d f =
    absurd (not_nonterminal d_token c_name (head_same (terminal d_token) (nonterminal c_name) [] b d))
up_c n r j b start_done d f = absurd (not_empty (nonterminal c_name) b d)
up_c n r j b ends_done d f = absurd (not_empty (nonterminal c_name) b d)
up_c n r j b two_done d f = absurd (not_empty (nonterminal c_name) b d)
up_c n r j b more_done d f = absurd (not_empty (nonterminal c_name) b d)

-- the start's item with its dot in front
data IsStartItem : ℕ → Production → ℕ → Type 0 where
  the_start : IsStartItem 0 starts_s 0

-- the dot stands before no nonterminal but C and, in that item, S
before_other : (n : ℕ) (r : Production) (j m : ℕ) (b : List Symbol) → StandsIn n r j → drop j r.right ≡ nonterminal (name m) ∷ b →
    (m ≡ 67 → ⊥) → (m ≡ 83) × IsStartItem n r j
before_other n r j m b start_first d f = (
  sym (name_same 83 m (nonterminal_is s_name (name m) (head_same (nonterminal s_name) (nonterminal (name m)) [] b d))),
  the_start,
)
before_other n r j m b two_first d f =
    absurd (f (sym (name_same 67 m
    (nonterminal_is c_name (name m) (head_same (nonterminal c_name) (nonterminal (name m)) (nonterminal c_name ∷ []) b d)))))
before_other n r j m b two_second d f =
    absurd (f (sym (name_same 67 m
    (nonterminal_is c_name (name m) (head_same (nonterminal c_name) (nonterminal (name m)) [] b d)))))
before_other n r j m b more_second d f =
    absurd (f (sym (name_same 67 m
    (nonterminal_is c_name (name m) (head_same (nonterminal c_name) (nonterminal (name m)) [] b d)))))
before_other n r j m b (more_first k o) d f =
    absurd (not_nonterminal c_token (name m) (head_same (terminal c_token) (nonterminal (name m)) (nonterminal c_name ∷ []) b d))
before_other n r j m b (ends_first k o) d f =
    absurd (not_nonterminal d_token (name m) (head_same (terminal d_token) (nonterminal (name m)) [] b d))
before_other n r j m b start_done d f = absurd (not_empty (nonterminal (name m)) b d)
before_other n r j m b ends_done d f = absurd (not_empty (nonterminal (name m)) b d)
before_other n r j m b two_done d f = absurd (not_empty (nonterminal (name m)) b d)
before_other n r j m b more_done d f = absurd (not_empty (nonterminal (name m)) b d)

start_on : (n : ℕ) (r : Production) (j : ℕ) → IsStartItem n r j → OnLane n r j
start_on n r j the_start = whole

up_on : (m : ℕ) (q : Production) (i : ℕ) (r : Production) (j : ℕ) (b : List Symbol) → OnLane m q i → i ≡ 0 → StandsIn m r j →
    drop j r.right ≡ nonterminal q.left ∷ b → First0 G b None → OnLane m r j
up_on m q i r j b (d_before n o) e it d f = up_c m r j b it d f
up_on m q i r j b (c_before n o) e it d f = up_c m r j b it d f
up_on m q i r j b first_c e it d f = start_on m r j (before_other m r j 83 b it d (λ h. omega (arith, h))).1
up_on m q i r j b whole e it d f =
    let h = (before_other m r j 95 b it d (λ z. omega (arith, z))).0 in absurd (omega (arith, h))
up_on m q i r j b d_behind e it d f = absurd (omega (arith, e))
up_on m q i r j b more_behind e it d f = absurd (omega (arith, e))
up_on m q i r j b second_c e it d f = absurd (omega (arith, e))
up_on m q i r j b inner_c e it d f = absurd (omega (arith, e))

-- they come nowhere else
on_lane : (n : ℕ) (p : Production) (i : ℕ) → OnLane n p i → (m : ℕ) (q : Production) (j : ℕ) →
    Lane G StandsIn LeadsOn n p i m q j → OnLane m q j
on_lane n p i from =
    lane_least G StandsIn LeadsOn n p i OnLane from
    (λ m q j X b k v d e. back_on k m m q (suc j) j X v refl e refl)
    (λ m q r j b v it d f. up_on m q 0 r j b v refl it d f)

at_start : (m : ℕ) (q : Production) (j : ℕ) → OnLane m q j → q.left ≡ start_name → m ≡ 0
at_start m q j whole e = refl
at_start m q j first_c e = refl
at_start m q j d_behind e = absurd (omega (arith, name_same 67 95 e))
at_start m q j more_behind e = absurd (omega (arith, name_same 67 95 e))
at_start m q j (d_before n o) e = absurd (omega (arith, name_same 67 95 e))
at_start m q j second_c e = absurd (omega (arith, name_same 83 95 e))
at_start m q j inner_c e = absurd (omega (arith, name_same 67 95 e))
at_start m q j (c_before n o) e = absurd (omega (arith, name_same 67 95 e))

-- and both go to where the end and the terminals come from
abbrev DLane : ℕ → Production → ℕ → Type 0
DLane = Lane G StandsIn LeadsOn 4 c_ends 1

abbrev MoreLane : ℕ → Production → ℕ → Type 0
MoreLane = Lane G StandsIn LeadsOn 6 c_more 2

lane_before : (n : ℕ) → BeginsC n → DLane n c_ends 0
lane_before n o = steps_back (terminal d_token) [] n begins_lane refl (by_d n o)

more_before : (n : ℕ) → BeginsC n → MoreLane n c_more 0
more_before n o =
    steps_back (terminal c_token) (nonterminal c_name ∷ []) n
    (steps_back (nonterminal c_name) [] 3 begins_lane refl by_more) refl (by_c n o)

module _ (n : ℕ) (p : Production) (i : ℕ) (q : Production) (c_q : q.left ≡ c_name)
    (goes : (m : ℕ) → BeginsC m → Lane G StandsIn LeadsOn n p i m q 0) where
  lane_second : Lane G StandsIn LeadsOn n p i 2 two_c 1
  lane_second = steps_up two_c 1 [] (goes 2 behind_one) two_second (ap (λ A. nonterminal A ∷ []) (sym c_q)) ends

  lane_first : Lane G StandsIn LeadsOn n p i 0 two_c 0
  lane_first = steps_back (nonterminal c_name) (nonterminal c_name ∷ []) 0 lane_second refl by_one

  lane_whole : Lane G StandsIn LeadsOn n p i 0 starts_s 0
  lane_whole = steps_up starts_s 0 [] lane_first start_first refl ends

  adds_behind : (t : Terminal) → First0 G (nonterminal c_name ∷ []) (Some t) →
      LaneAdds G start_name StandsIn LeadsOn n p i 0 (Some t)
  adds_behind t f =
      adds_first two_c 0 (nonterminal c_name ∷ []) t (goes 0 at_first) two_first
      (ap (λ A. nonterminal A ∷ nonterminal c_name ∷ []) (sym c_q)) f

-- In state 0 they add the end and both terminals, which are what is carried to the items, and nothing anywhere else.
abbrev IsAny : Next → Type 0
IsAny x = (x ≡ None) ⊎ ((x ≡ Some c_token) ⊎ (x ≡ Some d_token))

any_of : (t : Terminal) → IsEither t → IsAny (Some t)
any_of t (inl e) = inr (inl (ap Some e))
any_of t (inr e) = inr (inr (ap Some e))

adds_any : (n : ℕ) (p : Production) (i : ℕ) → OnLane n p i → (m : ℕ) (x : Next) →
    LaneAdds G start_name StandsIn LeadsOn n p i m x → (m ≡ 0) × IsAny x
adds_any n p i from m x (adds_end {q = q} l e) = (at_start m q 0 (on_lane n p i from m q 0 l) e, inl refl)
adds_any n p i from m x (adds_first {q = q} r j b t l it d f) =
    let h = first_behind m r j q.left b t it d f in (h.0, any_of t h.1)

any_added : (n : ℕ) (p : Production) (i : ℕ) (q : Production) → q.left ≡ c_name →
    ((m : ℕ) → BeginsC m → Lane G StandsIn LeadsOn n p i m q 0) → (x : Next) → IsAny x →
    LaneAdds G start_name StandsIn LeadsOn n p i 0 x
any_added n p i q e goes x (inl h) =
    subst (LaneAdds G start_name StandsIn LeadsOn n p i 0) (sym h) (adds_end (lane_whole n p i q e goes) refl)
any_added n p i q e goes x (inr (inl h)) =
    subst (LaneAdds G start_name StandsIn LeadsOn n p i 0) (sym h) (adds_behind n p i q e goes c_token c_begins)
any_added n p i q e goes x (inr (inr h)) =
    subst (LaneAdds G start_name StandsIn LeadsOn n p i 0) (sym h) (adds_behind n p i q e goes d_token d_begins)

d_adds : (x : Next) → LaneAdds G start_name StandsIn LeadsOn 4 c_ends 1 0 x ↔ IsAny x
d_adds x = (λ a. (adds_any 4 c_ends 1 d_behind 0 x a).1, any_added 4 c_ends 1 c_ends refl lane_before x)

more_adds : (x : Next) → LaneAdds G start_name StandsIn LeadsOn 6 c_more 2 0 x ↔ IsAny x
more_adds x = (λ a. (adds_any 6 c_more 2 more_behind 0 x a).1, any_added 6 c_more 2 c_more refl more_before x)

-- The entries of the lane from `C = "d" (*)` in its own state and in state 2 are empty.
own_entry : LaneEnters G start_name StandsIn LeadsOn 4 c_ends 1 4
own_entry = enters_own

other_entry : LaneEnters G start_name StandsIn LeadsOn 4 c_ends 1 2
other_entry = enters_behind two_c 1 [] (lane_before 2 behind_one) two_second refl

empty_entries : (x : Next) → (LaneAdds G start_name StandsIn LeadsOn 4 c_ends 1 4 x → ⊥)
    × (LaneAdds G start_name StandsIn LeadsOn 4 c_ends 1 2 x → ⊥)
empty_entries x = (
  λ a. omega (arith, (adds_any 4 c_ends 1 d_behind 4 x a).0),
  λ a. omega (arith, (adds_any 4 c_ends 1 d_behind 2 x a).0),
)

-- A lane comes back to its own state and item: from `C = "c" (*) C` in state 3, over the edge by `"c"` from that state to itself.
comes_back : Lane G StandsIn LeadsOn 3 c_more 1 3 c_more 1
comes_back =
    steps_up c_more 1 [] (steps_back (terminal c_token) (nonterminal c_name ∷ []) 3 begins_lane refl (by_c 3 behind_c)) more_second
    refl ends

notes_itself : LaneNotes G StandsIn LeadsOn 6 c_more 2 3 3
notes_itself =
    record {
      production = c_more;
      dot = 0;
      symbol = terminal c_token;
      rest = nonterminal c_name ∷ [];
      stepped = steps_back (nonterminal c_name) [] 3 begins_lane refl by_more;
      before = refl;
      edge = by_c 3 behind_c;
    }

-- The start's end: it is added in state 0 to the start's finished item in state 1.
start_end : LaneAdds G start_name StandsIn LeadsOn 1 starts_s 1 0 None
start_end = adds_end (steps_back (nonterminal s_name) [] 0 begins_lane refl by_s) refl

-- A shift is traced in its own state alone.
shift_adds : TraceAdds G start_name StandsIn LeadsOn 3 (shift d_token) 3 (Some d_token)
shift_adds = (refl, refl)

shift_not_elsewhere : TraceAdds G start_name StandsIn LeadsOn 3 (shift d_token) 0 (Some d_token) → ⊥
shift_not_elsewhere a = omega (arith, a.0)

reduction_enters : TraceEnters G start_name StandsIn LeadsOn 4 (reduce c_ends) 2
reduction_enters = other_entry

shift_notes_none : (k m : ℕ) → TraceNotes G StandsIn LeadsOn 3 (shift d_token) k m → ⊥
shift_notes_none k m h = h

-- The lanes from `S = C C (*)` in state 5 and from `__S = S (*)` in state 1.
data OnWhole : ℕ → Production → ℕ → Type 0 where
  both_behind : OnWhole 5 two_c 2
  all_behind : OnWhole 1 starts_s 1
  second_before : OnWhole 2 two_c 1
  both_before : OnWhole 0 two_c 0
  all_before : OnWhole 0 starts_s 0

back_whole : (k m n : ℕ) (q : Production) (i j : ℕ) (X : Symbol) → OnWhole m q i → i ≡ suc j → LeadsOn k X n → n ≡ m →
    OnWhole k q j
back_whole k m n q i j X both_behind e by_two f = let z : 1 ≡ j = omega (arith, e) in subst (OnWhole 2 two_c) z second_before
back_whole k m n q i j X second_before e by_one f = let z : 0 ≡ j = omega (arith, e) in subst (OnWhole 0 two_c) z both_before
back_whole k m n q i j X all_behind e by_s f = let z : 0 ≡ j = omega (arith, e) in subst (OnWhole 0 starts_s) z all_before
back_whole k m n q i j X l e t f = absurd (omega (arith, e, f))

start_whole : (n : ℕ) (r : Production) (j : ℕ) → IsStartItem n r j → OnWhole n r j
start_whole n r j the_start = all_before

up_whole : (m : ℕ) (q : Production) (i : ℕ) (r : Production) (j : ℕ) (b : List Symbol) → OnWhole m q i → i ≡ 0 →
    StandsIn m r j → drop j r.right ≡ nonterminal q.left ∷ b → OnWhole m r j
up_whole m q i r j b both_before e it d = start_whole m r j (before_other m r j 83 b it d (λ h. omega (arith, h))).1
up_whole m q i r j b all_before e it d =
    let h = (before_other m r j 95 b it d (λ z. omega (arith, z))).0 in absurd (omega (arith, h))
up_whole m q i r j b both_behind e it d = absurd (omega (arith, e))
up_whole m q i r j b all_behind e it d = absurd (omega (arith, e))
up_whole m q i r j b second_before e it d = absurd (omega (arith, e))

on_whole : (n : ℕ) (p : Production) (i : ℕ) → OnWhole n p i → (m : ℕ) (q : Production) (j : ℕ) →
    Lane G StandsIn LeadsOn n p i m q j → OnWhole m q j
on_whole n p i from =
    lane_least G StandsIn LeadsOn n p i OnWhole from
    (λ m q j X b k v d e. back_whole k m m q (suc j) j X v refl e refl)
    (λ m q r j b v it d f. up_whole m q 0 r j b v refl it d)

nothing_behind_start : (n : ℕ) (r : Production) (j : ℕ) (A : Text) (b : List Symbol) (t : Terminal) → IsStartItem n r j →
    drop j r.right ≡ nonterminal A ∷ b → First0 G b (Some t) → ⊥
nothing_behind_start n r j A b t the_start d f =
    no_first t (subst (λ xs. First0 G xs (Some t)) (sym (tail_same (nonterminal s_name) (nonterminal A) [] b d)) f)

no_terminal : (m : ℕ) (q : Production) (i : ℕ) (r : Production) (j : ℕ) (b : List Symbol) (t : Terminal) → OnWhole m q i →
    i ≡ 0 → StandsIn m r j → drop j r.right ≡ nonterminal q.left ∷ b → First0 G b (Some t) → ⊥
no_terminal m q i r j b t both_before e it d f =
    nothing_behind_start m r j s_name b t (before_other m r j 83 b it d (λ h. omega (arith, h))).1 d f
no_terminal m q i r j b t all_before e it d f =
    let h = (before_other m r j 95 b it d (λ z. omega (arith, z))).0 in omega (arith, h)
no_terminal m q i r j b t both_behind e it d f = omega (arith, e)
no_terminal m q i r j b t all_behind e it d f = omega (arith, e)
no_terminal m q i r j b t second_before e it d f = omega (arith, e)

only_end : (n : ℕ) (p : Production) (i : ℕ) → OnWhole n p i → (m : ℕ) (x : Next) →
    LaneAdds G start_name StandsIn LeadsOn n p i m x → (m ≡ 0) × (x ≡ None)
only_end n p i from m x (adds_end {q = q} l e) = (at_zero m q 0 (on_whole n p i from m q 0 l) refl, refl)
  where
    at_zero : (m : ℕ) (q : Production) (i : ℕ) → OnWhole m q i → i ≡ 0 → m ≡ 0
    at_zero m q i both_before e = refl
    at_zero m q i all_before e = refl
    at_zero m q i l e = absurd (omega (arith, e))
only_end n p i from m x (adds_first {q = q} r j b t l it d f) =
    absurd (no_terminal m q 0 r j b t (on_whole n p i from m q 0 l) refl it d f)

-- both add the end in state 0, and nothing else
whole_adds : LaneAdds G start_name StandsIn LeadsOn 5 two_c 2 0 None
whole_adds =
    adds_end (steps_up starts_s 0 []
    (steps_back (nonterminal c_name) (nonterminal c_name ∷ []) 0
    (steps_back (nonterminal c_name) [] 2 begins_lane refl by_two) refl by_one) start_first refl ends) refl

whole_just : (m : ℕ) (x : Next) → LaneAdds G start_name StandsIn LeadsOn 5 two_c 2 m x → (m ≡ 0) × (x ≡ None)
whole_just = only_end 5 two_c 2 both_behind

start_just : (m : ℕ) (x : Next) → LaneAdds G start_name StandsIn LeadsOn 1 starts_s 1 m x → (m ≡ 0) × (x ≡ None)
start_just = only_end 1 starts_s 1 all_behind

-- Two answers that are wrong: that `"c"` comes to `S = C C (*)`; and that the lane from `C = "d" (*)` adds something in the state behind
-- `"c"`, where it asks what can come behind a C, too.
wrong_terminal : (m : ℕ) → LaneAdds G start_name StandsIn LeadsOn 5 two_c 2 m (Some c_token) → ⊥
wrong_terminal m a = none_same c_token (whole_just m (Some c_token) a).1

wrong_state : (x : Next) → LaneAdds G start_name StandsIn LeadsOn 4 c_ends 1 3 x → ⊥
wrong_state x a = omega (arith, (adds_any 4 c_ends 1 d_behind 3 x a).0)

-- What is carried over these states leaves no conflict: a state that has finished an item has no other, and shifts nothing.
pub finished_one : (n k : ℕ) (p q : Production) (i j : ℕ) → StandsIn n p i → StandsIn k q j → i ≡ length p.right →
    j ≡ length q.right → n ≡ k → p ≡ q
finished_one n k p q i j start_done start_done e f h = refl
finished_one n k p q i j ends_done ends_done e f h = refl
finished_one n k p q i j two_done two_done e f h = refl
finished_one n k p q i j more_done more_done e f h = refl
finished_one n k p q i j it other e f h = absurd (omega (arith, e, f, h))

pub leads_from : (n : ℕ) (x : Symbol) (m : ℕ) → LeadsOn n x m → BeginsC n
leads_from n x m by_s = at_first
leads_from n x m by_one = at_first
leads_from n x m by_two = behind_one
leads_from n x m by_more = behind_c
leads_from n x m (by_c k o) = o
leads_from n x m (by_d k o) = o

begins_unfinished : (k : ℕ) → BeginsC k → (k ≡ 1 → ⊥) × (k ≡ 4 → ⊥) × (k ≡ 5 → ⊥) × (k ≡ 6 → ⊥)
begins_unfinished k at_first = (λ e. omega (arith, e), λ e. omega (arith, e), λ e. omega (arith, e), λ e. omega (arith, e))
begins_unfinished k behind_one = (λ e. omega (arith, e), λ e. omega (arith, e), λ e. omega (arith, e), λ e. omega (arith, e))
begins_unfinished k behind_c = (λ e. omega (arith, e), λ e. omega (arith, e), λ e. omega (arith, e), λ e. omega (arith, e))

pub finished_last : (n k : ℕ) (p : Production) (i : ℕ) → StandsIn n p i → BeginsC k → i ≡ length p.right → n ≡ k → ⊥
finished_last n k p i start_done o e f = (begins_unfinished k o).0 (sym f)
finished_last n k p i ends_done o e f = (begins_unfinished k o).1 (sym f)
finished_last n k p i two_done o e f = (begins_unfinished k o).2 (sym f)
finished_last n k p i more_done o e f = (begins_unfinished k o).3 (sym f)
finished_last n k p i it o e f = omega (arith, e)

no_carried_conflict : HasNoCarriedConflict G start_name StandsIn LeadsOn
no_carried_conflict =
    record {
      reductions_apart = λ n p q x a b. finished_one n n p q (length p.right) (length q.right) a.0 b.0 refl refl refl;
      shifts_apart = λ n p t m a e. finished_last n n p (length p.right) a.0 (leads_from n (terminal t) m e) refl refl;
    }
