-- The values of the live properties whose value is a string (RFC 4918, sections 15.1 to 15.7; RFC 4331; RFC 9110, section 5.6.7; RFC 3339, section
-- 5.6).
use Rattle.std.specs.Prelude.{ℕ, List, Option, None}
use Rattle.std.specs.Option.{option_map}
use Rattle.dav_key.specs.Key.{Key}
use Rattle.dav_resource.specs.declared.meta.Meta.{Meta}
use Rattle.dav_dates.specs.Moment.{shown_moment}
use Rattle.dav_dates.specs.HttpDate.{http_date_text}
use Rattle.dav_dates.specs.CreationDate.{creation_date_text}
use Rattle.dav_live.specs.Viewing.{Asker}
use Rattle.dav_live.specs.Moments.{creation_moment}
use Rattle.dav_live.specs.Texts.{length_text, type_text, tag_text, executable_text, attributes_text}
use Rattle.dav_live.specs.Quota.{available_text, used_text}
use Rattle.dav_live.specs.declared.property.LiveProperty.{LiveProperty}
use Rattle.dav_live.specs.declared.property.LiveProperty.TheVariants.{CreationDate, ContentLength, ContentType, ETag, LastModified, LockDiscovery, ResourceType, SupportedLock, CurrentUserPrincipal, QuotaAvailableBytes, QuotaUsedBytes, Executable, Win32CreationTime, Win32FileAttributes, Win32LastAccessTime, Win32LastModifiedTime}

-- `None` if the value is not known, and for properties whose value is a tree
abbrev pub live_text : LiveProperty → Asker → Key → Meta → Option (List ℕ)
live_text CreationDate asker key meta = option_map creation_date_text (creation_moment meta)
live_text ContentLength asker key meta = length_text meta
live_text ContentType asker key meta = type_text key meta
live_text ETag asker key meta = tag_text meta
live_text LastModified asker key meta = option_map http_date_text (shown_moment meta.modified)
live_text QuotaAvailableBytes asker key meta = available_text asker key meta
live_text QuotaUsedBytes asker key meta = used_text asker key meta
live_text Executable asker key meta = executable_text meta
live_text Win32CreationTime asker key meta = option_map http_date_text (creation_moment meta)
live_text Win32FileAttributes asker key meta = attributes_text key meta
live_text Win32LastAccessTime asker key meta = option_map http_date_text (shown_moment meta.accessed)
live_text Win32LastModifiedTime asker key meta = option_map http_date_text (shown_moment meta.modified)
live_text LockDiscovery asker key meta = None
live_text ResourceType asker key meta = None
live_text SupportedLock asker key meta = None
live_text CurrentUserPrincipal asker key meta = None
