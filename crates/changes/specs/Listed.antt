-- What an entry of the code, and what is left of a list, stand for.
use Rattle.std.specs.Prelude.{◌*◌, ◌≤◌, List, length}
use Rattle.map.specs.Entity.{EntityRef, entity}
use Rattle.changes.specs.declared.lists.Entry.{Entry}
use Rattle.changes.specs.declared.lists.EntryList.{EntryList}
use Rattle.changes.specs.Walk.{refs_to, Walks}

abbrev pub ref_of : Entry → EntityRef
ref_of a = entity a.kind a.number

abbrev pub refs_of : EntryList → List EntityRef
refs_of l = refs_to l.words.now l.end l.count

-- as many entries as it counts end where it ends
abbrev pub Stands : EntryList → Type 0
Stands l = (l.count * 2 ≤ l.end) × (l.end ≤ length l.words.now)

-- and they rise
abbrev pub Walked : EntryList → Type 0
Walked l = Walks l.words.now l.end l.count
