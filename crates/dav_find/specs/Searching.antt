-- What a `Search` asks for, as an `Asking`: this project's own choice.
use Rattle.dav_find.specs.declared.search.Search.{Search}
use Rattle.dav_find.specs.Asked.{Asking}

abbrev pub asking_for : Search → Asking
asking_for search = record { kind = search.kind; asked = search.asked.items }
