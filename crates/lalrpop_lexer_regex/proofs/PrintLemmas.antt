-- What is printed of a pattern is read as a pattern that is like it: for the law.
use Rattle.std.proofs.Common.{◌≡◌, ℕ, zero, suc, ◌≤◌, max, Bool, true, false, ◌==◌, List, [], ◌∷◌, ◌++◌}
use Rattle.std.proofs.Common.{length, map, Option, None, Some, Ok, refl, sym, ap, ◌∙◌, inl, inr, arith, append-nil, subst}
use Rattle.std.proofs.lemmas.Bool.{cases_Bool}
use Rattle.std.proofs.lemmas.Bool.Decides.{nat_tests}
use Rattle.lalrpop_lexer_pattern.specs.Matches.{Pattern, concat_all, alternation_all}
use Rattle.lalrpop_lexer_pattern.specs.Sets.{is_scalar}
use Rattle.lalrpop_lexer_pattern.specs.declared.class.Range.{Range}
use Rattle.lalrpop_lexer_pattern.specs.declared.tree.Look.{Look}
use Rattle.lalrpop_lexer_pattern.specs.declared.tree.Look.TheVariants.{Start, End, WordBoundary, NotWordBoundary}
use Rattle.lalrpop_lexer_regex.specs.Atoms.{escaped_atom_at, plain_atom_at}
use Rattle.lalrpop_lexer_regex.specs.Patterns.{concat_of, one_of}
use Rattle.lalrpop_lexer_regex.specs.Regex.{whole_pattern}
use Rattle.lalrpop_lexer_regex.specs.Printing.{Place, group_if, literal_text, class_text, look_text}
use Rattle.lalrpop_lexer_regex.specs.Printing.{character_text, nonempty_ranges, nothing_text, is_group_name}
use Rattle.lalrpop_lexer_regex.specs.Printing.{bounds_fall, bounds_text, is_nothing, print}
use Rattle.lalrpop_lexer_regex.specs.Printable.{AreScalars, HaveScalarEnds, HasScalars, HasSmallCounts, IsPrintable}
use Rattle.lalrpop_lexer_regex.specs.ReadBack.{IsReadBackAs}
use Rattle.lalrpop_lexer_regex.proofs.CharacterLemmas.{character_front, character_atom, atom_read}
use Rattle.lalrpop_lexer_regex.proofs.ClassTextLemmas.{class_read, read_set, bracket_front}
use Rattle.lalrpop_lexer_regex.proofs.ReadingLemmas.{IsPiece, IsSequence, IsChoice, piece_of_atom, sequence_of_piece}
use Rattle.lalrpop_lexer_regex.proofs.ReadingLemmas.{empty_sequence, joined_sequence, choice_of_sequence, joined_choice}
use Rattle.lalrpop_lexer_regex.proofs.GroupLemmas.{whole_choice, plain_group, number_group, named_group, repeated_piece}
use Rattle.lalrpop_lexer_regex.proofs.AlikeLemmas.{IsAlike, alike_itself, alike_sequence, alike_choice, alike_one_of, alike_concat}
use Rattle.lalrpop_lexer_regex.proofs.AlikeLemmas.{alike_alternation, alike_last, alike_repetition, alike_number, alike_name}
use Rattle.lalrpop_lexer_regex.proofs.AlikeLemmas.{alike_unnamed, letter, alike_literal, alike_class, alike_falling}
use Rattle.lalrpop_lexer_regex.proofs.NestingLemmas.{nesting, nesting_of_print}

-- with so much room, the text is read as one piece like the pattern
record ReadsPiece (d : ℕ) (text : List ℕ) (p : Pattern) : Type 0 where
  read : Pattern
  piece : IsPiece d text read
  alike : IsAlike read p

-- as pieces one after another
record ReadsSequence (d : ℕ) (text : List ℕ) (p : Pattern) : Type 0 where
  read : List Pattern
  sequence : IsSequence d text read
  alike : IsAlike (concat_all read) p

-- as branches
record ReadsChoice (d : ℕ) (text : List ℕ) (p : Pattern) : Type 0 where
  read : List Pattern
  choice : IsChoice d text read
  alike : IsAlike (alternation_all read) p

-- at each place, with as much room as the print takes, the print is read as something like the pattern
record IsReadAtAll (p : Pattern) : Type 0 where
  alone : (d : ℕ) → nesting p Place.alone ≤ d → ReadsChoice d (print p Place.alone) p
  in_sequence : (d : ℕ) → nesting p Place.in_sequence ≤ d → ReadsSequence d (print p Place.in_sequence) p
  in_repetition : (d : ℕ) → nesting p Place.in_repetition ≤ d → ReadsPiece d (print p Place.in_repetition) p

sequence_from : (d : ℕ) (text : List ℕ) (p : Pattern) → ReadsPiece d text p → ReadsSequence d text p
sequence_from d text p r = record {
  read = r.read ∷ [];
  sequence = sequence_of_piece d text r.read r.piece;
  alike = alike_sequence r.read p r.alike;
}

choice_from : (d : ℕ) (text : List ℕ) (p : Pattern) → ReadsSequence d text p → ReadsChoice d text p
choice_from d text p r = record {
  read = concat_of r.read ∷ [];
  choice = choice_of_sequence d text r.read r.sequence;
  alike = alike_choice r.read p r.alike;
}

-- a group around branches
group_from : (n d : ℕ) (text : List ℕ) (p : Pattern) → ((e : ℕ) → n ≤ e → ReadsChoice e text p) → suc n ≤ d
    → ReadsPiece d (group_if true text) p
group_from n zero text p reads h = absurd (omega arith)
group_from n (suc d) text p reads h =
    let r = reads d (omega arith) in
    record { read = one_of r.read; piece = plain_group d text r.read r.choice; alike = alike_one_of r.read p r.alike }

-- what is a piece at each place
all_from_piece : (p : Pattern) (text : List ℕ) (n : ℕ) → ((place : Place) → print p place ≡ text)
    → ((place : Place) → nesting p place ≡ n) → ((d : ℕ) → n ≤ d → ReadsPiece d text p) → IsReadAtAll p
all_from_piece p text n same deep reads = record {
  alone = λ d h.
      let room : n ≤ d = omega (arith, deep Place.alone) in
      let P : List ℕ → Type 0 = λ l. ReadsChoice d l p in
      subst P (sym (same Place.alone)) (choice_from d text p (sequence_from d text p (reads d room)));
  in_sequence = λ d h.
      let room : n ≤ d = omega (arith, deep Place.in_sequence) in
      let P : List ℕ → Type 0 = λ l. ReadsSequence d l p in
      subst P (sym (same Place.in_sequence)) (sequence_from d text p (reads d room));
  in_repetition = λ d h.
      let room : n ≤ d = omega (arith, deep Place.in_repetition) in
      let P : List ℕ → Type 0 = λ l. ReadsPiece d l p in
      subst P (sym (same Place.in_repetition)) (reads d room);
}

-- characters
character_is : (d c : ℕ) → is_scalar c ≡ true → IsPiece d (character_text c) (letter c)
character_is d c s =
    piece_of_atom d 92 (character_text c) _ (letter c) refl refl refl
    (λ rest. ap (λ l. atom_read d l) (character_front c rest) ∙ character_atom d c rest s)

character_piece : (d c : ℕ) → is_scalar c ≡ true → ReadsPiece d (character_text c) (letter c)
character_piece d c s = record { read = letter c; piece = character_is d c s; alike = alike_itself (letter c) }

word_sequence : (d : ℕ) (cs : List ℕ) → AreScalars cs → IsSequence d (literal_text cs) (map letter cs)
word_sequence d [] s = empty_sequence d
word_sequence d (c ∷ cs) s =
    joined_sequence d (character_text c) (literal_text cs) (letter c ∷ []) (map letter cs)
    (sequence_of_piece d (character_text c) (letter c) (character_is d c s.0)) (word_sequence d cs s.1)

word_from : (d : ℕ) (cs : List ℕ) → AreScalars cs → ReadsSequence d (literal_text cs) (Pattern.literal cs)
word_from d cs s = record { read = map letter cs; sequence = word_sequence d cs s; alike = alike_literal cs }

-- a word that isn't one character
long_word : (cs : List ℕ) → (length cs == 1) ≡ false → AreScalars cs → IsReadAtAll (Pattern.literal cs)
long_word cs long s = record {
  alone = λ d h. choice_from d (literal_text cs) (Pattern.literal cs) (word_from d cs s);
  in_sequence = λ d h. word_from d cs s;
  in_repetition = λ d h.
      let deep : nesting (Pattern.literal cs) Place.in_repetition ≡ 1 = rw long refl in
      let same : print (Pattern.literal cs) Place.in_repetition ≡ group_if true (literal_text cs) = rw long refl in
      let P : List ℕ → Type 0 = λ l. ReadsPiece d l (Pattern.literal cs) in
      subst P (sym same)
      (group_from 0 d (literal_text cs) (Pattern.literal cs)
      (λ e g. choice_from e (literal_text cs) (Pattern.literal cs) (word_from e cs s)) (omega arith));
}

short_place : (c : ℕ) (place : Place) → print (letter c) place ≡ character_text c ++ []
short_place c Place.alone = refl
short_place c Place.in_sequence = refl
short_place c Place.in_repetition = refl

short_nesting : (c : ℕ) (place : Place) → nesting (letter c) place ≡ 0
short_nesting c Place.alone = refl
short_nesting c Place.in_sequence = refl
short_nesting c Place.in_repetition = refl

short_word : (c : ℕ) → AreScalars (c ∷ []) → IsReadAtAll (letter c)
short_word c s =
    all_from_piece (letter c) (character_text c) 0 (λ place. short_place c place ∙ append-nil (character_text c)) (short_nesting c)
    (λ d h. character_piece d c s.0)

literal_all : (cs : List ℕ) → AreScalars cs → IsReadAtAll (Pattern.literal cs)
literal_all [] s = long_word [] refl s
literal_all (c ∷ []) s = short_word c s
literal_all (c ∷ e ∷ cs) s =
    let long : (length (c ∷ e ∷ cs) == 1) ≡ false = grind (arith, nat_tests) in
    long_word (c ∷ e ∷ cs) long s

empty_from : (d : ℕ) → ReadsSequence d [] Pattern.empty
empty_from d = record { read = []; sequence = empty_sequence d; alike = alike_itself Pattern.empty }

empty_all : IsReadAtAll Pattern.empty
empty_all = record {
  alone = λ d h. choice_from d [] Pattern.empty (empty_from d);
  in_sequence = λ d h. empty_from d;
  in_repetition = λ d h. group_from 0 d [] Pattern.empty (λ e g. choice_from e [] Pattern.empty (empty_from e)) h;
}

-- classes
class_piece : (d : ℕ) (rs : List Range) (p : Pattern) → HaveScalarEnds rs → IsAlike (Pattern.class (read_set rs)) p → 1 ≤ d
    → ReadsPiece d (class_text rs) p
class_piece zero rs p s a h = absurd (omega arith)
class_piece (suc d) rs p s a h = record {
  read = Pattern.class (read_set rs);
  piece =
      let front = bracket_front (nonempty_ranges rs) in
      piece_of_atom (suc d) 91 (class_text rs) front.0 (Pattern.class (read_set rs)) front.1 refl refl (λ rest. class_read d rest rs s);
  alike = a;
}

class_all : (rs : List Range) → HaveScalarEnds rs → IsReadAtAll (Pattern.class rs)
class_all rs s =
    all_from_piece (Pattern.class rs) (class_text rs) 1 (λ place. refl) (λ place. refl)
    (λ d h. class_piece d rs (Pattern.class rs) s (alike_class rs s) h)

-- places in the text
look_read : (d : ℕ) (l : Look) (rest : List ℕ) → atom_read d (look_text l ++ rest) ≡ Ok (Pattern.look l, rest)
unfolding plain_atom_at escaped_atom_at
look_read d Start rest = refl
look_read d End rest = refl
look_read d WordBoundary rest = refl
look_read d NotWordBoundary rest = refl

look_front : (l : Look) → (more : List ℕ) × (look_text l ≡ 92 ∷ more)
look_front Start = (_, refl)
look_front End = (_, refl)
look_front WordBoundary = (_, refl)
look_front NotWordBoundary = (_, refl)

look_all : (l : Look) → IsReadAtAll (Pattern.look l)
look_all l =
    all_from_piece (Pattern.look l) (look_text l) 0 (λ place. refl) (λ place. refl) (λ d h. record {
      read = Pattern.look l;
      piece = piece_of_atom d 92 (look_text l) (look_front l).0 (Pattern.look l) (look_front l).1 refl refl (look_read d l);
      alike = alike_itself (Pattern.look l);
    })

-- groups
capture_piece : (name : Option (List ℕ)) (p : Pattern) (d : ℕ) → IsReadAtAll p → suc (nesting p Place.alone) ≤ d
    → ReadsPiece d (print (Pattern.capture name p) Place.alone) (Pattern.capture name p)
capture_piece name p zero r h = absurd (omega arith)
capture_piece None p (suc d) r h =
    let inner = r.alone d (omega arith) in
    record {
      read = Pattern.capture None (one_of inner.read);
      piece = number_group d (print p Place.alone) inner.read inner.choice;
      alike = alike_number (one_of inner.read) p (alike_one_of inner.read p inner.alike);
    }
capture_piece (Some name) p (suc d) r h =
    let inner = r.alone d (omega arith) in
    elim (cases_Bool (is_group_name name)) [
      | inl is ↦ rw is (record {
        read = Pattern.capture (Some name) (one_of inner.read);
        piece = named_group d name (print p Place.alone) inner.read is inner.choice;
        alike = alike_name name (one_of inner.read) p (alike_one_of inner.read p inner.alike);
      })
      | inr other ↦ rw other (record {
        read = Pattern.capture None (one_of inner.read);
        piece = number_group d (print p Place.alone) inner.read inner.choice;
        alike = alike_unnamed name (one_of inner.read) p other (alike_one_of inner.read p inner.alike);
      })
    ]

capture_all : (name : Option (List ℕ)) (p : Pattern) → IsReadAtAll p → IsReadAtAll (Pattern.capture name p)
capture_all name p r =
    all_from_piece (Pattern.capture name p) (print (Pattern.capture name p) Place.alone) (suc (nesting p Place.alone))
    (λ place. refl) (λ place. refl) (λ d h. capture_piece name p d r h)

-- repetitions
repetition_all : (least : ℕ) (greatest : Option ℕ) (greedy : Bool) (p : Pattern)
    → HasSmallCounts (Pattern.repetition least greatest greedy p) → IsReadAtAll p
    → IsReadAtAll (Pattern.repetition least greatest greedy p)
repetition_all least greatest greedy p k r =
    let whole = Pattern.repetition least greatest greedy p in
    elim (cases_Bool (bounds_fall least greatest)) [
      | inl falls ↦
          all_from_piece whole nothing_text 1 (λ place. rw falls refl) (λ place. rw falls refl)
          (λ d h. class_piece d [] whole tt (alike_falling least greatest greedy p falls) h)
      | inr rises ↦
          all_from_piece whole (print p Place.in_repetition ++ bounds_text least greatest greedy) (nesting p Place.in_repetition)
          (λ place. rw rises refl) (λ place. rw rises refl) (λ d h.
          let inner = r.in_repetition d h in
          record {
            read = Pattern.repetition least greatest greedy inner.read;
            piece = repeated_piece d (print p Place.in_repetition) inner.read least greatest greedy k.0 k.1 rises inner.piece;
            alike = alike_repetition least greatest greedy inner.read p inner.alike;
          })
    ]

-- one after another
concat_from : (p q : Pattern) → IsReadAtAll p → IsReadAtAll q → (d : ℕ)
    → max (nesting p Place.in_sequence) (nesting q Place.in_sequence) ≤ d
    → ReadsSequence d (print p Place.in_sequence ++ print q Place.in_sequence) (Pattern.concat p q)
concat_from p q a b d h =
    let front = a.in_sequence d (omega arith) in
    let back = b.in_sequence d (omega arith) in
    record {
      read = front.read ++ back.read;
      sequence = joined_sequence d (print p Place.in_sequence) (print q Place.in_sequence) front.read back.read front.sequence
          back.sequence;
      alike = alike_concat front.read back.read p q front.alike back.alike;
    }

concat_all_places : (p q : Pattern) → IsReadAtAll p → IsReadAtAll q → IsReadAtAll (Pattern.concat p q)
concat_all_places p q a b =
    let whole = Pattern.concat p q in
    let text = print p Place.in_sequence ++ print q Place.in_sequence in
    let n = max (nesting p Place.in_sequence) (nesting q Place.in_sequence) in
    record {
      alone = λ d h. choice_from d text whole (concat_from p q a b d h);
      in_sequence = λ d h. concat_from p q a b d h;
      in_repetition = λ d h. group_from n d text whole (λ e g. choice_from e text whole (concat_from p q a b e g)) h;
    }

-- one or the other
alternation_from : (p q : Pattern) → IsReadAtAll p → IsReadAtAll q → (d : ℕ)
    → max (nesting p Place.alone) (nesting q Place.alone) ≤ d
    → ReadsChoice d ((print p Place.alone ++ 124 ∷ []) ++ print q Place.alone) (Pattern.alternation p q)
alternation_from p q a b d h =
    let front = a.alone d (omega arith) in
    let back = b.alone d (omega arith) in
    record {
      read = front.read ++ back.read;
      choice = joined_choice d (print p Place.alone) (print q Place.alone) front.read back.read front.choice back.choice;
      alike = alike_alternation front.read back.read p q front.alike back.alike;
    }

-- where the last alternative is printed
two_alternatives : (p q : Pattern) → is_nothing q ≡ false → IsReadAtAll p → IsReadAtAll q → IsReadAtAll (Pattern.alternation p q)
two_alternatives p q something a b =
    let whole = Pattern.alternation p q in
    let text = (print p Place.alone ++ 124 ∷ []) ++ print q Place.alone in
    let n = max (nesting p Place.alone) (nesting q Place.alone) in
    let grouped : (d : ℕ) → suc n ≤ d → ReadsPiece d (group_if true text) whole =
    λ d h. group_from n d text whole (alternation_from p q a b) h in
    record {
      alone = λ d h.
          let same : nesting whole Place.alone ≡ n = rw something refl in
          rw something (alternation_from p q a b d (omega arith));
      in_sequence = λ d h.
          let same : nesting whole Place.in_sequence ≡ suc n = rw something refl in
          rw something (sequence_from d (group_if true text) whole (grouped d (omega arith)));
      in_repetition = λ d h.
          let same : nesting whole Place.in_repetition ≡ suc n = rw something refl in
          rw something (grouped d (omega arith));
    }

-- where it matches nothing and is left out
one_alternative : (p q : Pattern) → is_nothing q ≡ true → IsReadAtAll p → IsReadAtAll (Pattern.alternation p q)
one_alternative p q nothing a =
    let whole = Pattern.alternation p q in
    record {
      alone = λ d h.
          let same : nesting whole Place.alone ≡ nesting p Place.alone = rw nothing refl in
          let r = a.alone d (omega arith) in
          rw nothing (record { read = r.read; choice = r.choice; alike = alike_last (alternation_all r.read) p q nothing r.alike });
      in_sequence = λ d h.
          let same : nesting whole Place.in_sequence ≡ nesting p Place.in_sequence = rw nothing refl in
          let r = a.in_sequence d (omega arith) in
          rw nothing (record { read = r.read; sequence = r.sequence; alike = alike_last (concat_all r.read) p q nothing r.alike });
      in_repetition = λ d h.
          let same : nesting whole Place.in_repetition ≡ nesting p Place.in_repetition = rw nothing refl in
          let r = a.in_repetition d (omega arith) in
          rw nothing (record { read = r.read; piece = r.piece; alike = alike_last r.read p q nothing r.alike });
    }

-- every pattern with scalar values and small counts
read_at_all : (p : Pattern) → HasScalars p → HasSmallCounts p → IsReadAtAll p
read_at_all Pattern.empty s k = empty_all
read_at_all (Pattern.literal cs) s k = literal_all cs s
read_at_all (Pattern.class rs) s k = class_all rs s
read_at_all (Pattern.look l) s k = look_all l
read_at_all (Pattern.capture name p) s k = capture_all name p (read_at_all p s k)
read_at_all (Pattern.repetition least greatest greedy p) s k = repetition_all least greatest greedy p k (read_at_all p s k.2)
read_at_all (Pattern.concat p q) s k = concat_all_places p q (read_at_all p s.0 k.0) (read_at_all q s.1 k.1)
read_at_all (Pattern.alternation p q) s k = elim (cases_Bool (is_nothing q)) [
  | inl nothing ↦ one_alternative p q nothing (read_at_all p s.0 k.0)
  | inr something ↦ two_alternatives p q something (read_at_all p s.0 k.0) (read_at_all q s.1 k.1)
]

-- the law
pub printed_read_back : (p : Pattern) → IsPrintable p → IsReadBackAs (print p Place.alone) p
unfolding whole_pattern
printed_read_back p h =
    let room : nesting p Place.alone ≤ 250 = omega (arith, nesting_of_print p h.scalars h.counts, h.nesting) in
    let r = (read_at_all p h.scalars h.counts).alone 250 room in
    let like = alike_one_of r.read p r.alike in
    record {
      pattern = one_of r.read;
      read = rw (whole_choice 250 (print p Place.alone) r.read r.choice) refl;
      same_words = like.words;
      same_refusal = like.refused;
    }
