-- What is read of texts that stand behind one another, between bars, in groups and in front of repetitions. For printed patterns.
use Rattle.std.proofs.Common.{◌≡◌, ℕ, ◌+◌, ◌<◌, Bool, true, false, not, ◌==◌, ◌||◌, List, [], ◌∷◌}
use Rattle.std.proofs.Common.{◌++◌, length, Ok, refl, sym, ap, ◌∙◌, arith, append_assoc, append-nil, length-append, subst}
use Rattle.std.proofs.lemmas.Bool.Decides.{nat_tests}
use Rattle.lalrpop_lexer_pattern.specs.Matches.{Pattern}
use Rattle.lalrpop_lexer_regex.specs.Repeats.{begins_repeat}
use Rattle.lalrpop_lexer_regex.specs.Patterns.{concat_of, atom_with, factor_with, atom_at, factor_at}
use Rattle.lalrpop_lexer_regex.specs.Patterns.{repeats_from}
use Rattle.lalrpop_lexer_regex.proofs.PatternLemmas.{IsRepeating, repeats_start, repeats_end, repeats_none}
use Rattle.lalrpop_lexer_regex.proofs.PatternLemmas.{IsReading, branches_piece, branches_bar}
use Rattle.lalrpop_lexer_regex.proofs.CharacterLemmas.{atom_read}

-- no repetition begins the text
abbrev pub has_no_repeat : List ℕ → Bool
has_no_repeat [] = true
has_no_repeat (c ∷ t) = not (begins_repeat c)

-- no question mark begins the text
abbrev pub has_no_question : List ℕ → Bool
has_no_question [] = true
has_no_question (c ∷ t) = not (c == 63)

-- one of \ [ (
abbrev pub starts_piece : ℕ → Bool
starts_piece c = (c == 92) || (c == 91) || (c == 40)

-- with no flag on, the text begins with an atom
abbrev pub IsAtom : ℕ → List ℕ → Pattern → List ℕ → Type 0
IsAtom d t p rest =
    atom_at d (record { insensitive = false; dot_all = false }) t ≡ Ok ((p, record { insensitive = false; dot_all = false }), rest)

-- with no flag on, the text begins with an atom and its repetitions
abbrev pub IsFactor : ℕ → List ℕ → Pattern → List ℕ → Type 0
IsFactor d t p rest =
    factor_at d (record { insensitive = false; dot_all = false }) t ≡ Ok ((p, record { insensitive = false; dot_all = false }), rest)

-- with no flag on, what is left to read after some branches and pieces
abbrev pub IsLeft : ℕ → List ℕ → List Pattern → List Pattern → List ℕ → Type 0
IsLeft d whole branches pieces rest =
    IsReading (factor_at d) (record { insensitive = false; dot_all = false }) whole branches pieces
    (record { insensitive = false; dot_all = false }) rest

-- The text is read as one atom and its repetitions, to which more can be added.
pub record IsPiece (d : ℕ) (text : List ℕ) (p : Pattern) : Type 0 where
  pub first : ℕ
  pub more : List ℕ
  pub begins : text ≡ first ∷ more
  pub starts : starts_piece first ≡ true
  pub base : Pattern
  pub after : List ℕ
  pub shorter : length after < length text
  pub atom : (rest : List ℕ) → IsAtom d (text ++ rest) base (after ++ rest)
  pub repeats : (rest : List ℕ) → has_no_question rest ≡ true → IsRepeating base (after ++ rest) rest p

-- The text is read as pieces one after another.
pub record IsSequence (d : ℕ) (text : List ℕ) (ps : List Pattern) : Type 0 where
  pub front : (rest : List ℕ) → has_no_repeat rest ≡ true → has_no_repeat (text ++ rest) ≡ true
  pub reads : (whole : List ℕ) (branches pieces : List Pattern) (rest : List ℕ) → has_no_repeat rest ≡ true
      → IsLeft d whole branches pieces (text ++ rest) → IsLeft d whole branches (pieces ++ ps) rest

-- What is left to read, where the pieces of the last branch may still be followed by more.
pub record IsLeftOpen (d : ℕ) (whole : List ℕ) (branches : List Pattern) (rest : List ℕ) : Type 0 where
  pub closed : List Pattern
  pub pieces : List Pattern
  pub same : closed ++ concat_of pieces ∷ [] ≡ branches
  pub left : IsLeft d whole closed pieces rest

-- The text is read as branches with bars between them.
pub record IsChoice (d : ℕ) (text : List ℕ) (ps : List Pattern) : Type 0 where
  pub front : (rest : List ℕ) → has_no_repeat rest ≡ true → has_no_repeat (text ++ rest) ≡ true
  pub reads : (whole : List ℕ) (branches : List Pattern) (rest : List ℕ) → has_no_repeat rest ≡ true
      → IsLeft d whole branches [] (text ++ rest) → IsLeftOpen d whole (branches ++ ps) rest

no_question : (rest : List ℕ) → has_no_repeat rest ≡ true → has_no_question rest ≡ true
no_question [] h = refl
no_question (c ∷ t) h = grind (arith, nat_tests)

atom_is : (d c : ℕ) (t rest : List ℕ) (p : Pattern) → (c == 40) ≡ false → atom_read d (c ∷ t) ≡ Ok (p, rest)
    → IsAtom d (c ∷ t) p rest
unfolding atom_with
atom_is d c t rest p h read = rw (h, read) refl

-- an atom that is no group is a piece
pub piece_of_atom : (d c : ℕ) (text more : List ℕ) (p : Pattern) → text ≡ c ∷ more → starts_piece c ≡ true
    → (c == 40) ≡ false → ((rest : List ℕ) → atom_read d (text ++ rest) ≡ Ok (p, rest)) → IsPiece d text p
piece_of_atom d c text more p begins starts no_group read = record {
  first = c;
  more = more;
  begins = begins;
  starts = starts;
  base = p;
  after = [];
  shorter = omega (arith, ap length begins);
  atom = λ rest.
      let at_front : text ++ rest ≡ c ∷ (more ++ rest) = ap (λ l. l ++ rest) begins in
      let here : atom_read d (c ∷ (more ++ rest)) ≡ Ok (p, rest) = sym (ap (λ l. atom_read d l) at_front) ∙ read rest in
      let P : List ℕ → Type 0 = λ l. IsAtom d l p rest in
      subst P (sym at_front) (atom_is d c (more ++ rest) rest p no_group here);
  repeats = λ rest h. repeats_start p rest;
}

all_repeats : (base p : Pattern) (whole rest : List ℕ) → has_no_repeat rest ≡ true → IsRepeating base whole rest p
    → repeats_from (length whole + 1) base whole ≡ Ok (p, rest)
all_repeats base p whole [] h w = repeats_none base p whole [] w refl
all_repeats base p whole (c ∷ t) h w =
    let stop : begins_repeat c ≡ false = grind (arith, nat_tests) in
    repeats_end base p whole (c ∷ t) t c refl w stop

factor_is : (d : ℕ) (text after rest : List ℕ) (base p : Pattern) → IsAtom d text base after
    → repeats_from (length after + 1) base after ≡ Ok (p, rest) → IsFactor d text p rest
unfolding factor_with
factor_is d text after rest base p atom repeats = rw (atom, repeats) refl

piece_factor : (d : ℕ) (text : List ℕ) (p : Pattern) → IsPiece d text p → (rest : List ℕ) → has_no_repeat rest ≡ true
    → IsFactor d (text ++ rest) p rest
piece_factor d text p w rest h =
    factor_is d (text ++ rest) (w.after ++ rest) rest w.base p (w.atom rest)
    (all_repeats w.base p (w.after ++ rest) rest h (w.repeats rest (no_question rest h)))

-- a piece is a sequence of one
pub sequence_of_piece : (d : ℕ) (text : List ℕ) (p : Pattern) → IsPiece d text p → IsSequence d text (p ∷ [])
sequence_of_piece d text p w =
    let c = w.first in
    let starts : starts_piece c ≡ true = w.starts in
    let no_repeat : not (begins_repeat c) ≡ true = grind (arith, nat_tests) in
    let no_close : (c == 41) ≡ false = grind (arith, nat_tests) in
    let no_bar : (c == 124) ≡ false = grind (arith, nat_tests) in
    record {
      front = λ rest h. ap (λ l. has_no_repeat (l ++ rest)) w.begins ∙ no_repeat;
      reads = λ whole branches pieces rest h left.
          let at_front : text ++ rest ≡ c ∷ (w.more ++ rest) = ap (λ l. l ++ rest) w.begins in
          branches_piece (factor_at d) _ whole branches pieces _ (text ++ rest) (w.more ++ rest) c at_front left
          (p, record { insensitive = false; dot_all = false }) rest no_close no_bar (piece_factor d text p w rest h)
          (omega (arith, w.shorter, length-append text rest));
    }

-- nothing is a sequence of none
pub empty_sequence : (d : ℕ) → IsSequence d [] []
empty_sequence d = record {
  front = λ rest h. h;
  reads = λ whole branches pieces rest h left. rw (append-nil pieces) left;
}

-- sequences one after another are a sequence
pub joined_sequence : (d : ℕ) (a b : List ℕ) (ps qs : List Pattern) → IsSequence d a ps → IsSequence d b qs
    → IsSequence d (a ++ b) (ps ++ qs)
joined_sequence d a b ps qs v w = record {
  front = λ rest h. rw (append_assoc a b rest) (v.front (b ++ rest) (w.front rest h));
  reads = λ whole branches pieces rest h left.
      let start : IsLeft d whole branches pieces (a ++ (b ++ rest)) = rw (append_assoc a b rest) at left in
      let middle = v.reads whole branches pieces (b ++ rest) (w.front rest h) start in
      let finish : IsLeft d whole branches ((pieces ++ ps) ++ qs) rest = w.reads whole branches (pieces ++ ps) rest h middle in
      rw (append_assoc pieces ps qs) at finish;
}

-- a sequence is one branch
pub choice_of_sequence : (d : ℕ) (text : List ℕ) (ps : List Pattern) → IsSequence d text ps → IsChoice d text (concat_of ps ∷ [])
choice_of_sequence d text ps w = record {
  front = w.front;
  reads = λ whole branches rest h left.
      record { closed = branches; pieces = ps; same = refl; left = w.reads whole branches [] rest h left };
}

-- branches with a bar between them are branches
pub joined_choice : (d : ℕ) (a b : List ℕ) (ps qs : List Pattern) → IsChoice d a ps → IsChoice d b qs
    → IsChoice d ((a ++ 124 ∷ []) ++ b) (ps ++ qs)
joined_choice d a b ps qs v w =
    let shape : (rest : List ℕ) → ((a ++ 124 ∷ []) ++ b) ++ rest ≡ a ++ 124 ∷ (b ++ rest) =
    λ rest. append_assoc (a ++ 124 ∷ []) b rest ∙ append_assoc a (124 ∷ []) (b ++ rest) in
    record {
      front = λ rest h. ap has_no_repeat (shape rest) ∙ v.front (124 ∷ (b ++ rest)) refl;
      reads = λ whole branches rest h left.
          let start : IsLeft d whole branches [] (a ++ 124 ∷ (b ++ rest)) = rw (shape rest) at left in
          let middle = v.reads whole branches (124 ∷ (b ++ rest)) refl start in
          let behind = branches_bar (factor_at d) _ whole middle.closed middle.pieces _ (124 ∷ (b ++ rest)) (b ++ rest) 124 refl
          middle.left refl refl in
          let next : IsLeft d whole (branches ++ ps) [] (b ++ rest) = rw middle.same at behind in
          let finish : IsLeftOpen d whole ((branches ++ ps) ++ qs) rest = w.reads whole (branches ++ ps) rest h next in
          rw (append_assoc branches ps qs) at finish;
    }
