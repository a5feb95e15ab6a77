-- The bench program: the line of a record. Assumes nothing: these are definitions.
use Rattle.std.specs.Prelude.{ℕ, zero, suc, ◌+◌, ◌/◌, ◌%◌, List, [], ◌∷◌, ◌++◌, eqb, ltb, if◌then◌else◌, codes}
use Rattle.layout.specs.declared.answers.Answer.{Answer}

-- the ASCII code of a digit
abbrev pub digit : ℕ → ℕ
digit d = 48 + d

-- the digits of a number of at most `bound`, none in front that is 0
unfoldable pub digits : ℕ → ℕ → List ℕ
digits zero n = digit n ∷ []
digits (suc bound) n = if ltb n 10 then (digit n ∷ []) else (digits bound (n / 10) ++ (digit (n % 10) ∷ []))

unfoldable pub decimal : ℕ → List ℕ
decimal n = digits n n

abbrev pub space : ℕ
space = 32

abbrev pub newline : ℕ
newline = 10

-- a number and what follows it
unfoldable pub field : ℕ → ℕ → List ℕ
field n after = decimal n ++ (after ∷ [])

abbrev pub ok_text : List ℕ
ok_text = codes "ok "

abbrev pub refused_text : List ℕ
refused_text = codes "refused "

-- `ok x y` or `refused r`
unfoldable pub outcome : Answer → List ℕ
outcome a =
    if eqb a.refusal 0
    then (ok_text ++ (field a.x space ++ field a.y newline))
    else (refused_text ++ field a.refusal newline)

-- record number, kind, outcome
unfoldable pub line_of : ℕ → ℕ → Answer → List ℕ
line_of number kind answer = field number space ++ (field kind space ++ outcome answer)
