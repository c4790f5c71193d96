-- names that are UTF-8, and bytes that are not
mod NameLemmas
