-- The answers of the two checks and the test of a world, as they are worked out. Only functions that docs/PROMISES.md lists
-- as inner cite this page; that it says what the pages Pack, Question and World mean is proved (GivenLaws, WorldLaws).
use Rattle.std.specs.Prelude.{◌≡◌, Bool, true, cond, not, ◌&&◌, ◌||◌, List, ℕ, ltb, Result, Ok, Err}
use Rattle.bits.specs.Sets.{lowest, every, some}
use Rattle.marks.specs.Marks.{marks_fit}
use Rattle.pack.specs.declared.check.Refusal.TheVariants.{Sizes, Pack, Record, Marks, Goal}
use Rattle.pack.specs.declared.line.Line.{Line}
use Rattle.pack.specs.declared.line.Line.TheVariants.{Under, BothUnder, UnderSome, SomeUnder, RoleUnder, ChainUnder, ToItself, NoLine}
use Rattle.pack.specs.Record.{keeps_at, record_count}
use Rattle.pack.specs.Pack.{sizes_fit, length_fits}
use Rattle.pack.specs.Question.{goal_fits}
use Rattle.pack.specs.World.{World}
use Rattle.pack.specs.declared.check.Refusal.{Refusal}
use Rattle.pack.specs.Answers.{refusal_told, checked_told}

-- the lowest place of a record that breaks the rules of its fields, or the record count
abbrev pub lowest_unkept : ℕ → ℕ → List ℕ → ℕ
lowest_unkept n m s = lowest (λ i. not (keeps_at n m s i)) 0 (record_count s)

-- 3 RECORD with the lowest place, else the record count
unfoldable pub check_records : ℕ → ℕ → List ℕ → Result ℕ Refusal
check_records n m s =
    cond (ltb (lowest_unkept n m s) (record_count s))
    (Err (Record (lowest_unkept n m s)))
    (Ok (record_count s))

-- 1 SIZES, 2 PACK, 3 RECORD, else the record count
unfoldable pub check_pack : ℕ → ℕ → List ℕ → Result ℕ Refusal
check_pack n m s =
    cond (sizes_fit n m)
    (cond (length_fits s) (check_records n m s) (Err Pack))
    (Err Sizes)

-- 4 MARKS unless they fit, 5 GOAL, else the record count
abbrev pub check_counted : ℕ → ℕ → Bool → ℕ → ℕ → Result ℕ Refusal
check_counted n count fit a b =
    cond fit
    (cond (goal_fits n a b) (Ok count) (Err Goal))
    (Err Marks)

-- after the pack check, where the marks fit the pack or do not
abbrev pub after_pack : Result ℕ Refusal → ℕ → Bool → ℕ → ℕ → Result ℕ Refusal
after_pack (Err why) n fit a b = Err why
after_pack (Ok count) n fit a b = check_counted n count fit a b

-- 1 to 5, else the record count
unfoldable pub check_question : ℕ → ℕ → List ℕ → List ℕ → ℕ → ℕ → Result ℕ Refusal
check_question n m s ws a b = after_pack (check_pack n m s) n (marks_fit ws (record_count s)) a b

-- the question is admitted: it is answered with a count
abbrev pub Admitted : ℕ → ℕ → List ℕ → List ℕ → ℕ → ℕ → Type 0
Admitted n m s ws a b = (k : ℕ) × (check_question n m s ws a b ≡ Ok k)

-- a world is tested line by line and thing by thing: its things are finitely many
unfoldable pub implies : Bool → Bool → Bool
implies p q = not p || q

unfoldable pub obeys_at : World → Line → ℕ → Bool
obeys_at w (Under a b) x = implies (w.is_in x a) (w.is_in x b)
obeys_at w (BothUnder a₁ a₂ b) x = implies (w.is_in x a₁ && w.is_in x a₂) (w.is_in x b)
obeys_at w (UnderSome a r b) x = implies (w.is_in x a) (some w.things (λ y. w.linked x r y && w.is_in y b))
obeys_at w (SomeUnder r a b) x = implies (some w.things (λ y. w.linked x r y && w.is_in y a)) (w.is_in x b)
obeys_at w (RoleUnder r s) x = every w.things (λ y. implies (w.linked x r y) (w.linked x s y))
obeys_at w (ChainUnder r s t) x = every w.things (λ y. implies (w.linked x r y) (every w.things (λ z. implies (w.linked y s z) (w.linked x t z))))
obeys_at w (ToItself r) x = w.linked x r x
obeys_at w NoLine x = true

unfoldable pub obeys : World → Line → Bool
obeys w l = every w.things (obeys_at w l)

-- the number and the value of an answer apart
abbrev pub refusal_number : Refusal → ℕ
refusal_number why = (refusal_told why).0

abbrev pub refusal_place : Refusal → ℕ
refusal_place why = (refusal_told why).1

abbrev pub checked_number : Result ℕ Refusal → ℕ
checked_number r = (checked_told r).0

abbrev pub checked_value : Result ℕ Refusal → ℕ
checked_value r = (checked_told r).1
