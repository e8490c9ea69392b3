-- The calls of a store, each as one that writes one record.
use Rattle.std.proofs.Common.{◌≡◌, ℕ, Bool, List, [], ◌∷◌}
use Rattle.std.specs.FinMap.{get}
use Rattle.dav_key.specs.Key.{Key, parent}
use Rattle.dav_resource.specs.PathText.{PathValue}
use Rattle.dav_resource.specs.declared.meta.OpenOptions.{OpenOptions}
use Rattle.dav_resource.specs.declared.meta.DavFile.{DavFile}
use Rattle.dav_resource.specs.declared.record.Op.TheVariants.{Metadata, ReadBytes, CreateDir, RemoveFile, RemoveDir, Copy, Rename, OpenFile, Seek, WriteBytes, Flush, FileMetadata, GetProp, GetProps, GetQuota}
use Rattle.dav_store.specs.Calls.{metadata_bar, IsMetaAt, LooksUp, create_dir_bar, IsMadeAt, MakesDirectory, open_bar, IsOpened, Opens, must_be_file, Reads, IsReadAt, ReadsBytes, file_bar, Seeks, IsWritten, Writes, Flushes, LooksUpFile}
use Rattle.dav_store.specs.Members.{members, IsRemovedAt, RemovesFile, remove_dir_bar, RemovesDir}
use Rattle.dav_store.specs.Transfers.{copy_bar, IsCopiedTo, Copies, rename_bar, IsRenamedTo, Renames}
use Rattle.dav_store.specs.PropertyCalls.{properties_at, get_prop_bar, IsPropertyAt, GetsProp, properties_bar, ArePropertiesAt, GetsProps, get_quota_bar, IsQuota, GetsQuota}
use Rattle.dav_wrapping.specs.Recorded.{IsCall, no_statuses, answers_call}

pub looks_call : (key : Key) → IsCall Metadata (key ∷ []) no_statuses (λ s. LooksUp s key)
looks_call key = answers_call Metadata (key ∷ []) (λ keeps old. metadata_bar (get old.tree key)) (IsMetaAt key)

pub makes_directory_call : (key : Key) → IsCall CreateDir (key ∷ []) no_statuses (λ s. MakesDirectory s key)
makes_directory_call key = answers_call CreateDir (key ∷ []) (λ keeps old. create_dir_bar (get old.tree key) (get old.tree (parent key))) (λ _. IsMadeAt key)

pub removes_file_call : (key : Key) → IsCall RemoveFile (key ∷ []) no_statuses (λ s. RemovesFile s key)
removes_file_call key = answers_call RemoveFile (key ∷ []) (λ keeps old. must_be_file (get old.tree key)) (λ _. IsRemovedAt key)

pub removes_dir_call : (key : Key) → IsCall RemoveDir (key ∷ []) no_statuses (λ s. RemovesDir s key)
removes_dir_call key = answers_call RemoveDir (key ∷ []) (λ keeps old. remove_dir_bar key (get old.tree key) (members old.tree key)) (λ _. IsRemovedAt key)

pub copies_call : (from to : Key) → IsCall Copy (from ∷ to ∷ []) no_statuses (λ s. Copies s from to)
copies_call from to = answers_call Copy (from ∷ to ∷ []) (λ keeps old. copy_bar (get old.tree from) (get old.tree to) (get old.tree (parent to))) (λ _. IsCopiedTo from to)

pub renames_call : (from to : Key) → IsCall Rename (from ∷ to ∷ []) no_statuses (λ s. Renames s from to)
renames_call from to = answers_call Rename (from ∷ to ∷ []) (λ keeps old. rename_bar from to (get old.tree from) (get old.tree to) (get old.tree (parent to))) (λ _. IsRenamedTo from to)

pub opens_call : (path : PathValue) (options : OpenOptions) → IsCall OpenFile (path.key ∷ []) no_statuses (λ s. Opens s path options)
opens_call path options = answers_call OpenFile (path.key ∷ []) (λ keeps old. open_bar options (get old.tree path.key) (get old.tree (parent path.key))) (IsOpened path options)

pub reads_bytes_call : (reads : Reads) (key : Key) (place count : ℕ) → IsCall ReadBytes (key ∷ []) no_statuses (λ s. ReadsBytes reads s key place count)
reads_bytes_call reads key place count = answers_call ReadBytes (key ∷ []) (λ keeps old. must_be_file (get old.tree key)) (λ bytes. IsReadAt reads.reading key place count bytes.items)

pub seeks_call : (key : Key) → IsCall Seek (key ∷ []) no_statuses (λ s. Seeks s key)
seeks_call key = answers_call Seek (key ∷ []) (λ keeps old. file_bar (get old.tree key)) (λ _ before after. after ≡ before)

pub writes_call : (file : DavFile) (more : List ℕ) → IsCall WriteBytes (file.path.key ∷ []) no_statuses (λ s. Writes s file more)
writes_call file more = answers_call WriteBytes (file.path.key ∷ []) (λ keeps old. file_bar (get old.tree file.path.key)) (λ _. IsWritten file more)

pub flushes_call : (key : Key) → IsCall Flush (key ∷ []) no_statuses (λ s. Flushes s key)
flushes_call key = answers_call Flush (key ∷ []) (λ keeps old. file_bar (get old.tree key)) (λ _ before after. after ≡ before)

pub looks_at_file_call : (key : Key) → IsCall FileMetadata (key ∷ []) no_statuses (λ s. LooksUpFile s key)
looks_at_file_call key = answers_call FileMetadata (key ∷ []) (λ keeps old. file_bar (get old.tree key)) (IsMetaAt key)

pub gets_prop_call : (key name : Key) → IsCall GetProp (key ∷ []) no_statuses (λ s. GetsProp s key name)
gets_prop_call key name = answers_call GetProp (key ∷ []) (λ keeps old. get_prop_bar (get (properties_at old key) name)) (IsPropertyAt key name)

pub gets_props_call : (key : Key) → IsCall GetProps (key ∷ []) no_statuses (λ s. GetsProps s key)
gets_props_call key = answers_call GetProps (key ∷ []) (λ keeps old. properties_bar keeps (get old.tree key)) (λ props. ArePropertiesAt key props.items)

pub gets_quota_call : IsCall GetQuota [] no_statuses (λ s. GetsQuota s)
gets_quota_call = answers_call GetQuota [] (λ keeps old. get_quota_bar old.quota) IsQuota
