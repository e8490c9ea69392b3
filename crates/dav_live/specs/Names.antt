-- Which properties are live, by namespace and name, and how a response names each (RFC 4918, section 15; RFC 4331, sections 3 and 4; RFC 5397,
-- section 3; the properties of Apache's and Microsoft's namespaces are those that their clients ask for).
use Rattle.std.specs.Prelude.{ℕ, Bool, true, false, if◌then◌else◌, List, codes, bytes_eq, Option, Some, None}
use Rattle.dav_live.specs.declared.property.LiveProperty.{LiveProperty}
use Rattle.dav_live.specs.declared.property.LiveProperty.TheVariants.{CreationDate, ContentLength, ContentType, ETag, LastModified, LockDiscovery, ResourceType, SupportedLock, CurrentUserPrincipal, QuotaAvailableBytes, QuotaUsedBytes, Executable, Win32CreationTime, Win32FileAttributes, Win32LastAccessTime, Win32LastModifiedTime}

-- ---- by their names

abbrev pub named_in_dav : List ℕ → Option LiveProperty
named_in_dav name =
    let is : List ℕ → Bool = bytes_eq name in
    if is (codes "creationdate") then Some CreationDate
    else (if is (codes "getcontentlength") then Some ContentLength
    else (if is (codes "getcontenttype") then Some ContentType
    else (if is (codes "getetag") then Some ETag
    else (if is (codes "getlastmodified") then Some LastModified
    else (if is (codes "lockdiscovery") then Some LockDiscovery
    else (if is (codes "resourcetype") then Some ResourceType
    else (if is (codes "supportedlock") then Some SupportedLock
    else (if is (codes "current-user-principal") then Some CurrentUserPrincipal
    else (if is (codes "quota-available-bytes") then Some QuotaAvailableBytes
    else (if is (codes "quota-used-bytes") then Some QuotaUsedBytes else None))))))))))

abbrev pub named_in_apache : List ℕ → Option LiveProperty
named_in_apache name = if bytes_eq name (codes "executable") then Some Executable else None

abbrev pub named_in_microsoft : List ℕ → Option LiveProperty
named_in_microsoft name =
    let is : List ℕ → Bool = bytes_eq name in
    if is (codes "Win32CreationTime") then Some Win32CreationTime
    else (if is (codes "Win32FileAttributes") then Some Win32FileAttributes
    else (if is (codes "Win32LastAccessTime") then Some Win32LastAccessTime
    else (if is (codes "Win32LastModifiedTime") then Some Win32LastModifiedTime else None)))

-- a name without a namespace is never that of a live property
abbrev pub live_property_of : Option (List ℕ) → List ℕ → Option LiveProperty
live_property_of None name = None
live_property_of (Some namespace) name =
    if bytes_eq namespace (codes "DAV:") then named_in_dav name
    else (if bytes_eq namespace (codes "http://apache.org/dav/props/") then named_in_apache name
    else (if bytes_eq namespace (codes "urn:schemas-microsoft-com:") then named_in_microsoft name else None))

-- its value comes from the store's quota
abbrev pub is_quota : LiveProperty → Bool
is_quota QuotaAvailableBytes = true
is_quota QuotaUsedBytes = true
is_quota _ = false

-- ---- in a response, whose outermost element declares the prefixes

abbrev pub shown_name : LiveProperty → List ℕ
shown_name CreationDate = codes "D:creationdate"
shown_name ContentLength = codes "D:getcontentlength"
shown_name ContentType = codes "D:getcontenttype"
shown_name ETag = codes "D:getetag"
shown_name LastModified = codes "D:getlastmodified"
shown_name LockDiscovery = codes "D:lockdiscovery"
shown_name ResourceType = codes "D:resourcetype"
shown_name SupportedLock = codes "D:supportedlock"
shown_name CurrentUserPrincipal = codes "D:current-user-principal"
shown_name QuotaAvailableBytes = codes "D:quota-available-bytes"
shown_name QuotaUsedBytes = codes "D:quota-used-bytes"
shown_name Executable = codes "A:executable"
shown_name Win32CreationTime = codes "Z:Win32CreationTime"
shown_name Win32FileAttributes = codes "Z:Win32FileAttributes"
shown_name Win32LastAccessTime = codes "Z:Win32LastAccessTime"
shown_name Win32LastModifiedTime = codes "Z:Win32LastModifiedTime"
