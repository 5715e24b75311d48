-- Refusals as JSON data.
use Rattle.std.specs.Prelude.{ℕ, List, codes}
use Rattle.serde_json.specs.Data.{Data, member, no_members, number, unsigned, string}
use Rattle.serde_json.specs.Data as json
use Rattle.reg_base.specs.MomentText.{text_of}
use Rattle.reg_terms.specs.declared.refusal.Refusal.{Refusal}
use Rattle.reg_terms.specs.declared.refusal.Refusal.TheVariants as refusal

-- what a refusal carries: nothing, a limit, a field or an object by its text, an object and the
-- privilege that is demanded on it, the moment asked of and the clock's by their texts, a use, a
-- kind of which there would be more than its limit, the rule that forbids, a record of a table, how
-- many rows there were before a load and how many it would remove, the number that a consumer had
-- and the log's last, or the number of the command that is kept
pub data Carries : Type 0 where
  nothing : Carries
  limit : ℕ → Carries
  field : List ℕ → Carries
  object : List ℕ → Carries
  demand : List ℕ → List ℕ → Carries
  used : List ℕ → Carries
  count : List ℕ → ℕ → Carries
  moments : List ℕ → List ℕ → Carries
  places : ℕ → ℕ → Carries
  rule : ℕ → Carries
  row : ℕ → Carries
  removal : ℕ → ℕ → Carries
  command : ℕ → Carries

-- a refusal by its number, its word and what it carries
unfoldable pub refused : ℕ → List ℕ → Carries → Data
refused code word nothing =
    json.object (member (codes "code") (number (unsigned code))
    (member (codes "refused") (string word) no_members))
refused code word (limit n) =
    json.object (member (codes "code") (number (unsigned code))
    (member (codes "limit") (number (unsigned n))
    (member (codes "refused") (string word) no_members)))
refused code word (field text) =
    json.object (member (codes "code") (number (unsigned code))
    (member (codes "field") (string text) (member (codes "refused") (string word) no_members)))
refused code word (object text) =
    json.object (member (codes "code") (number (unsigned code))
    (member (codes "object") (string text) (member (codes "refused") (string word) no_members)))
refused code word (demand name privilege) =
    json.object (member (codes "code") (number (unsigned code))
    (member (codes "object") (string name)
    (member (codes "privilege") (string privilege)
    (member (codes "refused") (string word) no_members))))
refused code word (used text) =
    json.object (member (codes "code") (number (unsigned code))
    (member (codes "refused") (string word) (member (codes "use") (string text) no_members)))
refused code word (count kind n) =
    json.object (member (codes "code") (number (unsigned code))
    (member (codes "kind") (string kind)
    (member (codes "limit") (number (unsigned n))
    (member (codes "refused") (string word) no_members))))
refused code word (moments asked clock) =
    json.object (member (codes "asked") (string asked)
    (member (codes "clock") (string clock)
    (member (codes "code") (number (unsigned code))
    (member (codes "refused") (string word) no_members))))
refused code word (places kept last) =
    json.object (member (codes "code") (number (unsigned code))
    (member (codes "kept") (number (unsigned kept))
    (member (codes "last") (number (unsigned last))
    (member (codes "refused") (string word) no_members))))
refused code word (rule id) =
    json.object (member (codes "code") (number (unsigned code))
    (member (codes "refused") (string word)
    (member (codes "rule") (number (unsigned id)) no_members)))
refused code word (row n) =
    json.object (member (codes "code") (number (unsigned code))
    (member (codes "record") (number (unsigned n))
    (member (codes "refused") (string word) no_members)))
refused code word (removal before removes) =
    json.object (member (codes "before") (number (unsigned before))
    (member (codes "code") (number (unsigned code))
    (member (codes "refused") (string word)
    (member (codes "removes") (number (unsigned removes)) no_members))))
refused code word (command n) =
    json.object (member (codes "code") (number (unsigned code))
    (member (codes "number") (number (unsigned n))
    (member (codes "refused") (string word) no_members)))

-- each refusal as JSON data
unfoldable pub refusal_data : Refusal → Data
refusal_data (refusal.TooLong n) = refused 1 (codes "TooLong") (limit n)
refusal_data (refusal.BadRequest text) = refused 2 (codes "BadRequest") (field text)
refusal_data (refusal.BadName text) = refused 3 (codes "BadName") (field text)
refusal_data (refusal.BadMoment text) = refused 4 (codes "BadMoment") (field text)
refusal_data refusal.NoCaller = refused 5 (codes "NoCaller") nothing
refusal_data (refusal.NotFound name) = refused 6 (codes "NotFound") (object name)
refusal_data (refusal.Denied name privilege) = refused 7 (codes "Denied") (demand name privilege)
refusal_data (refusal.Future asked clock) =
    refused 8 (codes "Future") (moments (text_of asked) (text_of clock))
refusal_data refusal.BadWindow = refused 9 (codes "BadWindow") nothing
refusal_data (refusal.WrongKind text) = refused 10 (codes "WrongKind") (field text)
refusal_data (refusal.Taken name) = refused 11 (codes "Taken") (object name)
refusal_data refusal.Already = refused 12 (codes "Already") nothing
refusal_data refusal.NoSuch = refused 13 (codes "NoSuch") nothing
refusal_data (refusal.IsComposite name) = refused 14 (codes "IsComposite") (object name)
refusal_data refusal.HasMembers = refused 15 (codes "HasMembers") nothing
refusal_data (refusal.Circular name) = refused 16 (codes "Circular") (object name)
refusal_data (refusal.InUse text) = refused 17 (codes "InUse") (used text)
refusal_data refusal.NotEmpty = refused 18 (codes "NotEmpty") nothing
refusal_data refusal.WrongOwner = refused 19 (codes "WrongOwner") nothing
refusal_data refusal.WrongValue = refused 20 (codes "WrongValue") nothing
refusal_data refusal.Single = refused 21 (codes "Single") nothing
refusal_data (refusal.Vetoed id) = refused 22 (codes "Vetoed") (rule id)
refusal_data (refusal.BadTable n) = refused 23 (codes "BadTable") (row n)
refusal_data (refusal.Failsafe before removes) =
    refused 24 (codes "Failsafe") (removal before removes)
refusal_data (refusal.Place kept last) = refused 25 (codes "Place") (places kept last)
refusal_data (refusal.Full kind n) = refused 26 (codes "Full") (count kind n)
refusal_data (refusal.OtherCommand n) = refused 27 (codes "OtherCommand") (command n)
refusal_data refusal.NoRoute = refused 30 (codes "NoRoute") nothing
refusal_data refusal.NoMethod = refused 31 (codes "NoMethod") nothing
refusal_data refusal.NoLength = refused 32 (codes "NoLength") nothing
refusal_data refusal.Coding = refused 33 (codes "Coding") nothing
refusal_data refusal.HeadTooLong = refused 34 (codes "HeadTooLong") nothing
refusal_data refusal.NoCallerHeader = refused 35 (codes "NoCallerHeader") nothing
refusal_data refusal.BadHead = refused 36 (codes "BadHead") nothing
