-- What is known before each step of a check.
use Rattle.std.proofs.Common.{◌≡◌, ◌∙◌, ℕ, Bool, true, false, List, [], ◌∷◌, ◌++◌, subst, ◌+◌, ◌*◌, ◌^◌, ◌≤◌, arith}
use Rattle.dav_store.specs.Store.{Store, IsWellFormed}
use Rattle.dav_check.specs.Pending.{AddsMembers, key_of}
use Rattle.dav_check.specs.Checking.{ChecksFile}
use Rattle.dav_check.specs.declared.checking.Checked.{Checked}
use Rattle.dav_check.specs.declared.pending.Pending.{Pending}
use Rattle.dav_check.proofs.Walk.{IsUnderway, awaits_on, lists, checks}
use Rattle.dav_check.proofs.Counting.{IsCounted, counts_lists, counts_checks}
use Rattle.dav_store.specs.Calls.{Reads}

-- what is known before each step of the loop
pub record Course {F : Type 0} (seen : F → Store) (reads : F → Reads) (first now : F) (waiting : List Pending) (checked : Checked) (visited : ℕ) : Type 0 where
  pub same : (seen now).contents ≡ (seen first).contents
  pub fixed : (seen now).facts ≡ (seen first).facts
  pub underway : IsUnderway seen reads (seen first).contents waiting checked
  pub counted : IsCounted (seen first).contents waiting checked
  pub files : checked.files ≤ visited
  pub bytes : checked.bytes ≤ checked.files * 2 ^ 64

module _ {F : Type 0} (seen : F → Store) (reads : F → Reads) (first now later : F) (waiting rest : List Pending) (next : Pending) (checked : Checked) (visited : ℕ)
    (formed : IsWellFormed (seen first).contents) (last : waiting ≡ rest ++ next ∷ []) (so_far : Course seen reads first now waiting checked visited)
    (same : (seen later).contents ≡ (seen now).contents) (fixed : (seen later).facts ≡ (seen now).facts) where
  -- a directory was listed
  pub course_lists : (after : List Pending) → next.meta.dir ≡ true → AddsMembers (seen now).contents (key_of next) rest after
      → (end : F) (ends_with : List Pending) (has : Checked) → end ≡ later → ends_with ≡ after → has ≡ checked → Course seen reads first end ends_with has (visited + 1)
  course_lists after dir adds end ends_with has is_end is_after is_has = rw (is_end, is_after, is_has) (record {
    same = same ∙ so_far.same;
    fixed = fixed ∙ so_far.fixed;
    underway = lists seen reads (seen first).contents formed waiting rest next checked last so_far.underway after dir (subst (λ contents. AddsMembers contents (key_of next) rest after) so_far.same adds);
    counted = counts_lists (seen first).contents formed waiting rest next checked last so_far.underway.there so_far.counted after dir (subst (λ contents. AddsMembers contents (key_of next) rest after) so_far.same adds)
        (awaits_on seen reads (seen first).contents formed waiting rest next checked last so_far.underway after dir (subst (λ contents. AddsMembers contents (key_of next) rest after) so_far.same adds));
    files = omega (arith, so_far.files);
    bytes = so_far.bytes;
  })

  -- a file was checked
  pub course_checks : (after : Checked) → next.meta.dir ≡ false → ChecksFile seen reads (seen now).contents next checked after → after.bytes ≤ after.files * 2 ^ 64
      → (end : F) (ends_with : List Pending) (has : Checked) → end ≡ later → ends_with ≡ rest → has ≡ after → Course seen reads first end ends_with has (visited + 1)
  course_checks after dir checks_one small end ends_with has is_end is_after is_has = rw (is_end, is_after, is_has) (record {
    same = same ∙ so_far.same;
    fixed = fixed ∙ so_far.fixed;
    underway = checks seen reads (seen first).contents formed waiting rest next checked last so_far.underway after dir (subst (λ contents. ChecksFile seen reads contents next checked after) so_far.same checks_one);
    counted = counts_checks (seen first).contents formed waiting rest next checked last so_far.underway.there so_far.counted after dir seen reads (subst (λ contents. ChecksFile seen reads contents next checked after) so_far.same checks_one);
    files = omega (arith, so_far.files, checks_one.files);
    bytes = small;
  })
