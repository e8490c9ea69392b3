-- How the names of the elements that the server itself writes are written, with their prefixes (RFC 4918, sections 14 to 16; RFC 4331; RFC 5397).
use Rattle.std.specs.Prelude.{ℕ, List, codes}
use Rattle.dav_resource.specs.declared.element_name.ElementName.{ElementName}
use Rattle.dav_resource.specs.declared.element_name.ElementName.TheVariants as element
use Rattle.dav_resource.specs.declared.element_name.LiveName.{LiveName}
use Rattle.dav_resource.specs.declared.element_name.LiveName.TheVariants as live

abbrev pub live_text : LiveName → List ℕ
live_text live.CreationDate = codes "D:creationdate"
live_text live.ContentLength = codes "D:getcontentlength"
live_text live.ContentType = codes "D:getcontenttype"
live_text live.ETag = codes "D:getetag"
live_text live.LastModified = codes "D:getlastmodified"
live_text live.LockDiscovery = codes "D:lockdiscovery"
live_text live.ResourceType = codes "D:resourcetype"
live_text live.SupportedLock = codes "D:supportedlock"
live_text live.CurrentUserPrincipal = codes "D:current-user-principal"
live_text live.QuotaAvailableBytes = codes "D:quota-available-bytes"
live_text live.QuotaUsedBytes = codes "D:quota-used-bytes"
live_text live.Executable = codes "A:executable"
live_text live.Win32CreationTime = codes "Z:Win32CreationTime"
live_text live.Win32FileAttributes = codes "Z:Win32FileAttributes"
live_text live.Win32LastAccessTime = codes "Z:Win32LastAccessTime"
live_text live.Win32LastModifiedTime = codes "Z:Win32LastModifiedTime"

abbrev pub name_text : ElementName → List ℕ
name_text element.Multistatus = codes "D:multistatus"
name_text element.Response = codes "D:response"
name_text element.Href = codes "D:href"
name_text element.Propstat = codes "D:propstat"
name_text element.Prop = codes "D:prop"
name_text element.Status = codes "D:status"
name_text element.Error = codes "D:error"
name_text element.PropfindFiniteDepth = codes "D:propfind-finite-depth"
name_text element.Collection = codes "D:collection"
name_text element.ActiveLock = codes "D:activelock"
name_text element.LockEntry = codes "D:lockentry"
name_text element.LockScope = codes "D:lockscope"
name_text element.LockType = codes "D:locktype"
name_text element.Exclusive = codes "D:exclusive"
name_text element.Shared = codes "D:shared"
name_text element.Write = codes "D:write"
name_text element.Depth = codes "D:depth"
name_text element.Timeout = codes "D:timeout"
name_text element.LockToken = codes "D:locktoken"
name_text element.LockRoot = codes "D:lockroot"
name_text (element.Live name) = live_text name
