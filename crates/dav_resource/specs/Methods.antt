-- The methods of WebDAV (RFC 4918, section 9; PATCH is RFC 5789) by name, and sets of methods.
use Rattle.std.specs.Prelude.{ℕ, Bool, false, List, codes, bytes_eq, if◌then◌else◌, Option, Some, None, slice_index_or, nat_eq}
use Rattle.dav_resource.specs.declared.method.DavMethod.{DavMethod}
use Rattle.dav_resource.specs.declared.method.DavMethod.TheVariants.{Head, Get, Put, Patch, Options, PropFind, PropPatch, MkCol, Copy, Move, Delete, Lock, Unlock}
use Rattle.dav_resource.specs.declared.method.DavMethodSet.{DavMethodSet}

-- the method with this name
abbrev pub method_of : List ℕ → Option DavMethod
method_of name =
    if bytes_eq name (codes "HEAD") then Some Head
    else (if bytes_eq name (codes "GET") then Some Get
    else (if bytes_eq name (codes "PUT") then Some Put
    else (if bytes_eq name (codes "PATCH") then Some Patch
    else (if bytes_eq name (codes "OPTIONS") then Some Options
    else (if bytes_eq name (codes "PROPFIND") then Some PropFind
    else (if bytes_eq name (codes "PROPPATCH") then Some PropPatch
    else (if bytes_eq name (codes "MKCOL") then Some MkCol
    else (if bytes_eq name (codes "COPY") then Some Copy
    else (if bytes_eq name (codes "MOVE") then Some Move
    else (if bytes_eq name (codes "DELETE") then Some Delete
    else (if bytes_eq name (codes "LOCK") then Some Lock
    else (if bytes_eq name (codes "UNLOCK") then Some Unlock else None))))))))))))

-- the index of a method in declaration order
abbrev pub place_of : DavMethod → ℕ
place_of Head = 0
place_of Get = 1
place_of Put = 2
place_of Patch = 3
place_of Options = 4
place_of PropFind = 5
place_of PropPatch = 6
place_of MkCol = 7
place_of Copy = 8
place_of Move = 9
place_of Delete = 10
place_of Lock = 11
place_of Unlock = 12

-- the methods are the same
abbrev pub same_method : DavMethod → DavMethod → Bool
same_method a b = nat_eq (place_of a) (place_of b)

-- the method is in the set
abbrev pub contains_method : DavMethodSet → DavMethod → Bool
contains_method set method = slice_index_or set.members (place_of method) false
