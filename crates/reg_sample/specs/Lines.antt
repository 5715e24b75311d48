-- What a sample asks: a list of lines by number, for a seed and a size.
use Rattle.std.specs.Prelude.{ℕ, zero, suc, List, [], ◌∷◌, ◌++◌, ◌+◌, ◌-◌, ◌*◌, ◌/◌, ◌%◌, ◌==◌}
use Rattle.std.specs.Prelude.{codes, nat_lt, if◌then◌else◌}
use Rattle.std.specs.Fmt.{decimal}
use Rattle.reg_base.specs.MomentText.{text_of}

-- ---- lines

-- a line of a caller's op, up to its fields
abbrev pub begun : List ℕ → List ℕ → List ℕ
begun by op = (((codes "{\"by\":\"" ++ by) ++ codes "\",\"op\":\"") ++ op) ++ codes "\""

-- a field more, which is a text that JSON doesn't escape
abbrev pub with : List ℕ → List ℕ → List ℕ → List ℕ
with key value line = ((((line ++ codes ",\"") ++ key) ++ codes "\":\"") ++ value) ++ codes "\""

-- and the end of the line
abbrev pub ended : List ℕ → List ℕ
ended line = line ++ codes "}"

abbrev pub by_system : List ℕ → List ℕ
by_system op = begun (codes "g:isa/GrouperSystem") op

-- ---- names

-- the person of this number
abbrev pub person : ℕ → List ℕ
person i = codes "uni/p" ++ decimal i

-- the group of this number, which stands in one of the 3n folders in turn
abbrev pub group : ℕ → ℕ → List ℕ
group size j = (codes "f" ++ decimal (j % (3 * size))) ++ (codes ":g" ++ decimal j)

-- a group that the loads make
abbrev pub loaded : ℕ → List ℕ
loaded k = codes "load:l" ++ decimal k

-- a composite
abbrev pub composite : ℕ → List ℕ
composite m = codes "f0:c" ++ decimal m

-- ---- folders, groups and persons

abbrev pub subject_line : ℕ → List ℕ
subject_line i = ended (with (codes "subject") (person i) (by_system (codes "subject.add")))

abbrev pub folder_line : ℕ → List ℕ
folder_line i =
    ended (with (codes "folder") (codes "f" ++ decimal i) (by_system (codes "folder.add")))

abbrev pub load_folder_line : List ℕ
load_folder_line = ended (with (codes "folder") (codes "load") (by_system (codes "folder.add")))

abbrev pub group_line : ℕ → ℕ → List ℕ
group_line size j = ended (with (codes "group") (group size j) (by_system (codes "group.add")))

-- the group before becomes a member of the group of this number
abbrev pub nested_line : ℕ → ℕ → List ℕ
nested_line size j =
    ended (with (codes "member") (codes "g:gsa/"
    ++ group size (j - 1)) (with (codes "group") (group size j) (by_system (codes "member.add"))))

-- the numbers that 10 doesn't divide, one after another
abbrev pub not_tenth : ℕ → ℕ
not_tenth m = m + m / 9 + 1

-- 200n persons, 3n folders and one for the loads, 20n groups, and of each ten groups one in the
-- other
abbrev pub making_line : ℕ → ℕ → List ℕ
making_line size k =
    if nat_lt k (200 * size) then subject_line k
    else (if nat_lt k (203 * size) then folder_line (k - 200 * size)
    else (if k == 203 * size then load_folder_line
    else (if nat_lt k (223 * size + 1) then group_line size (k - 203 * size - 1)
    else nested_line size (not_tenth (k - 223 * size - 1)))))

-- ---- the job and its first load

-- a list job over the folder of the loads
abbrev pub job_line : List ℕ
job_line = codes "{\"by\":\"g:isa/GrouperSystem\",\"op\":\"job.list\",\"job\":\"nightly\",\"folder\":\"load\",\"source\":\"uni\",\"min_size\":10,\"max_percent\":50}"

-- a record of the table: 40 for each group, and the persons in turn from one on that the seed tells
abbrev pub record_text : ℕ → ℕ → ℕ → List ℕ
record_text seed size i =
    loaded (i / 40) ++ codes ",p" ++ decimal ((i + seed % (200 * size)) % (200 * size))
    ++ codes "\\n"

-- so many records, from this one on
abbrev pub records : ℕ → ℕ → ℕ → ℕ → List ℕ
records seed size first zero = []
records seed size first (suc count) =
    records seed size first count ++ record_text seed size (first + count)

-- the table without its first records, as JSON writes it
abbrev pub table : ℕ → ℕ → ℕ → List ℕ
table seed size first =
    codes "GROUP_NAME,SUBJECT_ID\\n" ++ records seed size first (400 * size - first)

abbrev pub load_line : ℕ → ℕ → ℕ → List ℕ
load_line seed size first =
    ended (with (codes "table") (table seed size first)
    (with (codes "job") (codes "nightly") (by_system (codes "load"))))

-- the group of a composite is made
abbrev pub composite_line : ℕ → List ℕ
composite_line m = ended (with (codes "group") (composite m) (by_system (codes "group.add")))

abbrev pub factors_line : List ℕ → ℕ → ℕ → List ℕ
factors_line kind m right =
    ended (with (codes "right") (loaded right)
    (with (codes "left") (loaded m)
    (with (codes "kind") kind
    (with (codes "group") (composite m) (by_system (codes "composite.set"))))))

-- a complement of two groups of the load where the number is even, else an intersection of two that
-- are far apart
abbrev pub factored_line : ℕ → ℕ → List ℕ
factored_line size m =
    if m % 2 == 0 then factors_line (codes "complement") m (m + 1)
    else factors_line (codes "intersection") m ((m + 5 * size) % (10 * size))

abbrev pub rule_line : List ℕ
rule_line =
    ended (with (codes "owner") (codes "f0:g0")
    (with (codes "check") (codes "load:l0") (by_system (codes "rule.remove_lost"))))

abbrev pub member_line : ℕ → ℕ → List ℕ
member_line seed size =
    ended (with (codes "member") (person (seed % (200 * size)))
    (with (codes "group") (codes "f0:g0") (by_system (codes "member.add"))))

abbrev pub inherit_line : List ℕ
inherit_line =
    ended (with (codes "holder") (codes "g:isa/GrouperAll")
    (with (codes "privilege") (codes "READ")
    (with (codes "scope") (codes "ONE")
    (with (codes "kind") (codes "group")
    (with (codes "folder") (codes "load") (by_system (codes "inherit.add")))))))

-- the job, its load, twelve composites, a rule, a membership that it watches over, and who reads
-- what was loaded
abbrev pub loading_line : ℕ → ℕ → ℕ → List ℕ
loading_line seed size k =
    if k == 0 then job_line
    else (if k == 1 then load_line seed size 0
    else (if nat_lt k 26 then (if k % 2 == 0 then composite_line ((k - 2) / 2)
    else factored_line size ((k - 2) / 2))
    else (if k == 26 then rule_line
    else (if k == 27 then member_line seed size
    else inherit_line))))

-- ---- reads, and the second load

-- 40 persons ask in turn for the members of the groups of the load
abbrev pub read_line : ℕ → ℕ → List ℕ
read_line size q =
    ended (with (codes "group") (loaded (q % (10 * size)))
    (begun (person (q % 40)) (codes "members")))

-- who was a member of the group that the rule watches, at a moment
abbrev pub then_line : ℕ → List ℕ
then_line at =
    ended (with (codes "at") (text_of at)
    (with (codes "group") (codes "f0:g0") (by_system (codes "members"))))

-- who is now
abbrev pub now_line : List ℕ
now_line = ended (with (codes "group") (codes "f0:g0") (by_system (codes "members")))

-- how many lines stand before the second load, and so its moment's one before
abbrev pub before_load : ℕ → ℕ
before_load size = 246 * size + 30

-- 5n reads, the load without its first record, and two reads of a group from which that record's
-- person went
abbrev pub reading_line : ℕ → ℕ → ℕ → List ℕ
reading_line seed size k =
    if nat_lt k (5 * size) then read_line size k
    else (if k == 5 * size then load_line seed size 1
    else (if k == 5 * size + 1 then then_line (before_load size)
    else now_line))

-- ---- all

-- the line of this number, from 0
unfoldable pub line : ℕ → ℕ → ℕ → List ℕ
line seed size k =
    if nat_lt k (241 * size + 1) then making_line size k
    else (if nat_lt k (241 * size + 30) then loading_line seed size (k - (241 * size + 1))
    else reading_line seed size (k - (241 * size + 30)))

-- how many there are
abbrev pub count : ℕ → ℕ
count size = 246 * size + 33
