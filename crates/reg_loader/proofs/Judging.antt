-- What the records that were read one by one say of the whole table.
use Rattle.std.proofs.Common.{◌≡◌, ◌<◌, ◌-◌, ◌^◌, ℕ, Bool, List, [], ◌∷◌, ◌++◌, length, None, Result, Ok, Err, sym, subst, arith, append_assoc}
use Rattle.std.specs.Result.{IsErrAnd}
use Rattle.csv.specs.Machine.{next_record}
use Rattle.csv.specs.Reading.{Reached, default_config, strip_bom}
use Rattle.csv.specs.declared.parser.State.{State}
use Rattle.csv.specs.declared.parser.State.TheVariants as st
use Rattle.reg_loader.specs.declared.tables.TableRow.{TableRow}
use Rattle.reg_loader.specs.declared.tables.TableFault.{TableFault}
use Rattle.reg_loader.specs.declared.reading.Reading.{Reading}
use Rattle.reg_loader.specs.Tables.{Fields, Answers, Fails, table_in, table_of}
use Rattle.reg_loader.specs.Readings.{IsReading}
use Rattle.reg_loader.proofs.Reaching.{reached_within, records_begin, records_end, strip_within}
use Rattle.reg_loader.proofs.Takings.{counted}

-- one record more can be counted
pub roomy : (list : Bool) (bytes rest : List ℕ) (s : State) (all : List Fields) (reading : Reading) → length bytes < 2 ^ 64 - 2
    → Reached default_config st.StartRecord (strip_bom bytes) all s rest → IsReading list all reading → reading.count < 2 ^ 64 - 1
roomy list bytes rest s all reading short reached at =
    let count = counted list all reading at in
    let within = reached_within default_config st.StartRecord s (strip_bom bytes) rest all reached in
    let front = strip_within bytes in
    omega arith

-- what is wrong with every table that begins with these records is wrong with this one
pub fault_stands : (list : Bool) (bytes rest : List ℕ) (s : State) (all : List Fields) (fields : Fields) (fault : TableFault)
    → Reached default_config st.StartRecord (strip_bom bytes) (all ++ fields ∷ []) s rest → ((more : List Fields) → Fails (table_of list (all ++ fields ∷ more)) fault)
    → Fails (table_in list bytes) fault
unfolding table_in
fault_stands list bytes rest s all fields fault reached wrong =
    let (more, begins) = records_begin (strip_bom bytes) rest s (all ++ fields ∷ []) reached in
    rw (begins, append_assoc all (fields ∷ []) more) (wrong more)

-- what all records say is what the bytes say
pub all_stand : (list : Bool) (bytes rest : List ℕ) (s : State) (all : List Fields) (answer : Result (List TableRow) TableFault)
    → Reached default_config st.StartRecord (strip_bom bytes) all s rest → next_record default_config s [] [] rest ≡ None → Answers (table_of list all) answer
    → Answers (table_in list bytes) answer
unfolding table_in
all_stand list bytes rest s all answer reached ends right = rw (records_end (strip_bom bytes) rest s all reached ends) right

-- a fault that is handed on
pub handed_on : (said answer : Result (List TableRow) TableFault) (fault : TableFault) → IsErrAnd answer (λ e. e ≡ fault) → Fails said fault → Answers said answer
handed_on said (Ok rows) fault is wrong = absurd is
handed_on said (Err e) fault is wrong = subst (λ (f : TableFault). Fails said f) (sym is) wrong
