-- A folder in memory, without memory addresses.
use Rattle.std.specs.Prelude.{ℕ, List, Option, map, Vec}
use Rattle.std.specs.Option.{option_map}
use Rattle.std.specs.declared.alloc.Global.{Global}
use Rattle.sbl_saving.specs.Folders.{Anything, Exactly, Folder, Found}
use Rattle.sbl_saving.specs.declared.memory.Find.{Find}
use Rattle.sbl_saving.specs.declared.memory.Find.TheVariants as find
use Rattle.sbl_saving.specs.declared.memory.MemoryFolder.{MemoryFolder}

abbrev pub view_file : Option (Vec ℕ Global) → Option (List ℕ)
view_file file = option_map (λ bytes. bytes.items) file

abbrev pub view_find : Find → Found
view_find (find.Exactly file) = Exactly (view_file file)
view_find find.Anything = Anything

abbrev pub view_memory : MemoryFolder → Folder
view_memory m = record {
  target = view_file m.target;
  draft = view_file m.draft;
  is_flushed = m.is_flushed;
  now = map view_find m.finds_now.items;
  ever = map view_find m.finds_ever.items;
  failed = m.failed;
  is_left = m.is_left;
}
