-- The bench program's input (document 01, "The valve pack"): a pack, then one question record in the last 8 bytes.
use Rattle.std.specs.Prelude.{cond, ◌&&◌, List, ℕ, ◌-◌, eqb, ltb, length, get_or, take, drop, Result, Ok, Err}
use Rattle.lines.specs.declared.input.Asked.{Asked}
use Rattle.lines.specs.declared.input.InputError.{InputError}
use Rattle.lines.specs.declared.input.InputError.TheVariants.{Shape, TooLong}

-- the number of document 01's table; no value comes with it
abbrev pub input_error_told : InputError → ℕ × ℕ
input_error_told Shape = (1, 0)
input_error_told TooLong = (2, 0)

-- 0, n, m, A, B, three zeros; any other shape is refused 1
abbrev pub question_in : List ℕ → ℕ → Result Asked InputError
question_in q at =
    cond (eqb (get_or q 0 0) 0 && eqb (get_or q 5 0) 0 && eqb (get_or q 6 0) 0 && eqb (get_or q 7 0) 0)
    (Ok (record { n = get_or q 1 0; m = get_or q 2 0; a = get_or q 3 0; b = get_or q 4 0; at = at }))
    (Err Shape)

-- over 8,200 bytes in all is refused 2, whatever stands last; under 8 is refused 1
unfoldable pub input_of : List ℕ → Result Asked InputError
input_of s =
    cond (ltb 8200 (length s)) (Err TooLong)
    (cond (ltb (length s) 8) (Err Shape)
    (question_in (take 8 (drop (length s - 8) s)) (length s - 8)))
