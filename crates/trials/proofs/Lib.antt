mod Starred
