-- What can be wrong with the table of one place, which is given by the bytes t from its own start on.
use Rattle.std.specs.Prelude.{ℕ, ◌+◌, ◌-◌, Bool, not, ◌&&◌, ◌||◌, List, length, Ok, Err, Option, Result, ◌==◌, nat_lt}
use Rattle.fault.specs.declared.Placed.{Placed}
use Rattle.fault.specs.declared.TableFault.{TableFault}
use Rattle.fault.specs.declared.TableFault.TheVariants.{States, Transitions, Initial, Start, CutOff, Excess}
use Rattle.format.specs.Table.{states, transitions, initial, start_at, start, transition_at, size}
use Rattle.fault.specs.First.{flag, or_else, earliest}

-- the field of n bytes that begins at `at` does not end within the file
abbrev pub cut_off : List ℕ → ℕ → ℕ → Bool
cut_off t at n = nat_lt (length t) (at + n)

-- the faults of the fields in their order: a field that is cut off, else one out of range
abbrev pub counts_fault : List ℕ → Option TableFault
counts_fault t =
    or_else (flag (cut_off t 0 4) (CutOff 0))
    (or_else (flag (states t == 0 || nat_lt 4096 (states t)) States)
    (or_else (flag (cut_off t 4 4) (CutOff 4))
    (or_else (flag (nat_lt 16384 (transitions t)) Transitions)
    (or_else (flag (cut_off t 8 4) (CutOff 8))
    (flag (not (nat_lt (initial t) (states t))) Initial)))))

-- starts begin at 0, never fall, and end at the number of transitions
abbrev pub start_wrong : List ℕ → ℕ → Bool
start_wrong t i =
    (i == 0 && not (start t i == 0))
    || (nat_lt 0 i && nat_lt (start t i) (start t (i - 1)))
    || (i == states t && not (start t i == transitions t))

abbrev pub start_fault : List ℕ → ℕ → Option TableFault
start_fault t i = or_else (flag (cut_off t (start_at i) 4) (CutOff (start_at i))) (flag (start_wrong t i) (Start i))

-- of a transition only its length is checked here
abbrev pub transition_fault : List ℕ → ℕ → Option TableFault
transition_fault t k =
    or_else (flag (cut_off t (transition_at t k) 2) (CutOff (transition_at t k)))
    (or_else (flag (cut_off t (transition_at t k + 2) 4) (CutOff (transition_at t k + 2)))
    (flag (cut_off t (transition_at t k + 6) 8) (CutOff (transition_at t k + 6))))

-- the first fault of a table, field by field in file order
abbrev pub table_fault : List ℕ → Option TableFault
table_fault t =
    or_else (counts_fault t)
    (or_else (earliest (states t + 1) (start_fault t))
    (earliest (transitions t) (transition_fault t)))

-- bytes after the last table
abbrev pub excess_fault : List ℕ → Option TableFault
excess_fault t = flag (nat_lt (size t) (length t)) (Excess (size t))

-- a table's answer with its place
abbrev pub placed : {T : Type 0} → ℕ → Result T TableFault → Result T Placed
placed p (Ok x) = Ok x
placed p (Err f) = Err (record { place = p; fault = f })
