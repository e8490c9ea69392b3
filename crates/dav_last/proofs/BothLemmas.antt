-- What an error leaves of two slots that were to get one number.
use Rattle.std.proofs.Common.{◌≡◌, ◌∙◌, ℕ, true, false, refl, sym, ap₂, subst, inl, inr, IsTrue}
use Rattle.std.specs.Prelude.{Result, Ok, Err, OnErr}
use Rattle.std.proofs.lemmas.Bool.{cases_Bool, and_parts}
use Rattle.sqlite_disk.specs.declared.Disk.{Ghosts}
use Rattle.sqlite_wal.specs.Reads.{IsClean, are_clean, OnlyReads}
use Rattle.dav_last.specs.Slots.{said_by, names_more}
use Rattle.dav_last.specs.Crashes.{LeavesFirstOrKeepsSecond, StillNames}
use Rattle.dav_last.specs.declared.reading.Last.{Last}
use Rattle.dav_last.proofs.SlotLemmas.{greatest-more, greatest-other}

pub at-err : {T E : Type 0} (result : Result T E) {P : Type 0} → P → OnErr result P
at-err (Ok x) p = tt
at-err (Err e) p = p

pub at-err-too : {T E : Type 0} (result : Result T E) {P Q : Type 0} → (P → Q) → OnErr result P → OnErr result Q
at-err-too (Ok x) then p = tt
at-err-too (Err e) then p = then p

module _ {D : Type 0} (g : Ghosts D) (key number : ℕ) where
  pub OnlyReads-same : (file : D) → g.is_usable file ≡ true → OnlyReads g file file
  OnlyReads-same file usable = record {
    seen = refl;
    clean = λ clean. clean;
    usable = usable;
    key = refl;
    rot = refl;
    crash = λ c left. left;
  }

  -- both slots were only read
  pub StillNames-read : (log db new_log new_db : D) → OnlyReads g log new_log → OnlyReads g db new_db → StillNames g key number (log, db) (new_log, new_db)
  StillNames-read log db new_log new_db first second = elim (cases_Bool (names_more (said_by key (g.seen log)) (said_by key (g.seen db)))) [
    | inl more ↦ inr (inl (record { reads = first; greatest = λ clean. greatest-more key (g.seen log) (g.seen db) more }))
    | inr less ↦ inr (inr (record { reads = second; greatest = λ clean. greatest-other key (g.seen log) (g.seen db) less }))
  ]

  module _ (log db read_log read_db new_log new_db : D) (in_log in_db : Last)
      (log_said : IsClean g read_log → in_log ≡ said_by key (g.seen log)) (db_said : IsClean g read_db → in_db ≡ said_by key (g.seen db))
      (log_reads : OnlyReads g log read_log) (db_reads : OnlyReads g db read_db)
      (log_calm : g.is_clean new_log ≡ g.is_clean read_log) (db_calm : g.is_clean new_db ≡ g.is_clean read_db) where
    said_both : IsTrue (are_clean g new_log new_db) → names_more in_log in_db ≡ names_more (said_by key (g.seen log)) (said_by key (g.seen db))
    said_both clean = let both = and_parts _ _ clean in ap₂ names_more (log_said (sym log_calm ∙ both.0)) (db_said (sym db_calm ∙ both.1))

    -- the log names more, and was to be written second
    pub StillNames-log : names_more in_log in_db ≡ true → LeavesFirstOrKeepsSecond g key number new_db read_log new_log → StillNames g key number (log, db) (new_log, new_db)
    StillNames-log more kept = elim kept [
      | inl leaves ↦ inl (inr leaves)
      | inr same ↦ inr (inl (record {
        reads = subst (OnlyReads g log) (sym same) log_reads;
        greatest = λ clean. greatest-more key (g.seen log) (g.seen db) (sym (said_both clean) ∙ more);
      }))
    ]

    -- the log names no more, and was to be written first
    pub StillNames-db : names_more in_log in_db ≡ false → LeavesFirstOrKeepsSecond g key number new_log read_db new_db → StillNames g key number (log, db) (new_log, new_db)
    StillNames-db less kept = elim kept [
      | inl leaves ↦ inl (inl leaves)
      | inr same ↦ inr (inr (record {
        reads = subst (OnlyReads g db) (sym same) db_reads;
        greatest = λ clean. greatest-other key (g.seen log) (g.seen db) (sym (said_both clean) ∙ less);
      }))
    ]
